-- A record is read back where each of its fields is.
use Rattle.std.specs.Prelude.{Option}
use Prim.Native.Nat.{ℕ}
use mathlib.Core.Path.{◌≡◌, refl}
use mathlib.Core.List.{List}
use lib.ListN.{drop}
use Rattle.decimal.specs.declared.Cell.{Cell}
use Rattle.records.specs.declared.Edge.{Edge}
use Rattle.records.specs.declared.Enable.{Enable}
use Rattle.records.specs.declared.Location.{Location}
use Rattle.records.specs.declared.ModelType.{ModelType}
use Rattle.records.specs.Texts.{Name, Words}
use Rattle.records.specs.declared.Polarity.{Polarity}
use Rattle.records.specs.declared.RampTable.{RampTable}
use Rattle.records.specs.declared.Range.{Range}
use Rattle.records.specs.declared.Span.{Span}
use Rattle.records.specs.declared.Split.{Split}
use Rattle.records.specs.declared.Table.{Table}
use Rattle.records.specs.declared.Triple.{Triple}
use Rattle.table_records.specs.Values.{number_at, cell_at, location_in, polarity_in, enable_in, edge_in, type_in}
use Rattle.table_records.specs.Records.{name_from, span_from, triple_from, table_from, range_from, split_from, ramp_from, text_from, component_from, pin_from, selector_from, choice_from, model_from, waveform_from}

pub component-is : (ws : List ℕ) (section : ℕ) (name : Name) (si timing : Location) (manufacturer : Name) (resistance inductance capacitance : Triple) (pins : Span) → section ≡ number_at ws 0 → name ≡ name_from (drop 1 ws) → si ≡ location_in (number_at ws 7) → timing ≡ location_in (number_at ws 8) → manufacturer ≡ name_from (drop 9 ws) → resistance ≡ triple_from (drop 15 ws) → inductance ≡ triple_from (drop 18 ws) → capacitance ≡ triple_from (drop 21 ws) → pins ≡ span_from (drop 24 ws)
    → record { section = section; name = name; si = si; timing = timing; manufacturer = manufacturer; resistance = resistance; inductance = inductance; capacitance = capacitance; pins = pins } ≡ component_from ws
unfolding component_from
component-is ws section name si timing manufacturer resistance inductance capacitance pins h0 h1 h2 h3 h4 h5 h6 h7 h8 = rw (h0, h1, h2, h3, h4, h5, h6, h7, h8) refl

pub model_is : (ws : List ℕ) (section : ℕ) (name : Name) (kind : ModelType) (polarity : Option Polarity) (enable : Option Enable) (comp : Triple) (split : Split) (vinl vinh vmeas cref rref vref : Cell) (voltage : Triple) (temperature : Range) (pulldown pullup ground power : Table) (ramp : RampTable) (waveforms : Span) → section ≡ number_at ws 0 → name ≡ name_from (drop 1 ws) → kind ≡ type_in (number_at ws 7) → polarity ≡ polarity_in (number_at ws 8) → enable ≡ enable_in (number_at ws 9) → comp ≡ triple_from (drop 10 ws) → split ≡ split_from (drop 13 ws) → vinl ≡ cell_at ws 29 → vinh ≡ cell_at ws 30 → vmeas ≡ cell_at ws 31 → cref ≡ cell_at ws 32 → rref ≡ cell_at ws 33 → vref ≡ cell_at ws 34 → voltage ≡ triple_from (drop 35 ws) → temperature ≡ range_from (drop 38 ws) → pulldown ≡ table_from (drop 42 ws) → pullup ≡ table_from (drop 45 ws) → ground ≡ table_from (drop 48 ws) → power ≡ table_from (drop 51 ws) → ramp ≡ ramp_from (drop 54 ws) → waveforms ≡ span_from (drop 68 ws)
    → record { section = section; name = name; kind = kind; polarity = polarity; enable = enable; comp = comp; split = split; vinl = vinl; vinh = vinh; vmeas = vmeas; cref = cref; rref = rref; vref = vref; voltage = voltage; temperature = temperature; pulldown = pulldown; pullup = pullup; ground = ground; power = power; ramp = ramp; waveforms = waveforms } ≡ model_from ws
unfolding model_from
model_is ws section name kind pol ena comp split vinl vinh vmeas cref rref vref voltage temperature pulldown pullup ground power ramp waveforms h0 h1 h2 h3 h4 h5 h6 h7 h8 h9 h10 h11 h12 h13 h14 h15 h16 h17 h18 h19 h20 = rw (h0, h1, h2, h3, h4, h5, h6, h7, h8, h9, h10, h11, h12, h13, h14, h15, h16, h17, h18, h19, h20) refl

pub waveform-is : (ws : List ℕ) (edge : Edge) (rfixture vfixture vmin vmax cfixture lfixture rdut ldut cdut : Cell) (rows : Span) → edge ≡ edge_in (number_at ws 0) → rfixture ≡ cell_at ws 1 → vfixture ≡ cell_at ws 2 → vmin ≡ cell_at ws 3 → vmax ≡ cell_at ws 4 → cfixture ≡ cell_at ws 5 → lfixture ≡ cell_at ws 6 → rdut ≡ cell_at ws 7 → ldut ≡ cell_at ws 8 → cdut ≡ cell_at ws 9 → rows ≡ span_from (drop 10 ws)
    → record { edge = edge; rfixture = rfixture; vfixture = vfixture; vmin = vmin; vmax = vmax; cfixture = cfixture; lfixture = lfixture; rdut = rdut; ldut = ldut; cdut = cdut; rows = rows } ≡ waveform_from ws
unfolding waveform_from
waveform-is ws edge rfixture vfixture vmin vmax cfixture lfixture rdut ldut cdut rows h0 h1 h2 h3 h4 h5 h6 h7 h8 h9 h10 = rw (h0, h1, h2, h3, h4, h5, h6, h7, h8, h9, h10) refl

pub pin-is : (ws : List ℕ) (name signal model : Name) (resistance inductance capacitance : Cell) → name ≡ name_from ws → signal ≡ name_from (drop 6 ws) → model ≡ name_from (drop 12 ws) → resistance ≡ cell_at ws 18 → inductance ≡ cell_at ws 19 → capacitance ≡ cell_at ws 20
    → record { name = name; signal = signal; model = model; resistance = resistance; inductance = inductance; capacitance = capacitance } ≡ pin_from ws
unfolding pin_from
pin-is ws name signal model resistance inductance capacitance h0 h1 h2 h3 h4 h5 = rw (h0, h1, h2, h3, h4, h5) refl

pub selector-is : (ws : List ℕ) (section : ℕ) (name : Name) (choices : Span) → section ≡ number_at ws 0 → name ≡ name_from (drop 1 ws) → choices ≡ span_from (drop 7 ws)
    → record { section = section; name = name; choices = choices } ≡ selector_from ws
unfolding selector_from
selector-is ws section name choices h0 h1 h2 = rw (h0, h1, h2) refl

pub choice-is : (ws : List ℕ) (model : Name) (description : Words) → model ≡ name_from ws → description ≡ text_from (drop 6 ws)
    → record { model = model; description = description } ≡ choice_from ws
unfolding choice_from
choice-is ws model description h0 h1 = rw (h0, h1) refl
