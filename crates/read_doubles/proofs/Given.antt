-- Every record that is read is fine, so each of its cells is; and a fine cell has no more digits than count.
use mathlib.Core.Path.{ap}
use mathlib.Core.List.{List, [], ◌∷◌, ◌++◌}
use mathlib.Core.Bool.{Bool, true, false, cond}
use Rattle.laws.specs.Lists.{Every}
use Rattle.laws.proofs.Every.{every_append, every_map}
use Rattle.decimal.specs.Fine.{FineCell}
use Rattle.decimal.specs.declared.Cell.{Cell}
use Rattle.decimal.specs.declared.Cell.TheVariants.{Number, Missing}
use Rattle.decimal.proofs.Cells.{kept}
use Rattle.doubles.specs.Double.{double_of}
use Rattle.doubles.proofs.Faithful.{all-count, faithful}
use Rattle.records.specs.declared.Triple.{Triple}
use Rattle.records.specs.declared.Range.{Range}
use Rattle.records.specs.declared.Split.{Split}
use Rattle.records.specs.declared.RampCell.{RampCell}
use Rattle.records.specs.declared.RampCell.TheVariants.{Ratio, Absent}
use Rattle.records.specs.declared.RampTriple.{RampTriple}
use Rattle.records.specs.declared.Component.{Component}
use Rattle.records.specs.declared.Pin.{Pin}
use Rattle.records.specs.declared.Model.{Model}
use Rattle.records.specs.declared.Waveform.{Waveform}
use Rattle.records.specs.declared.Row.{Row}
use Rattle.records.specs.Cells.{triple_cells, range_cells, split_cells, level_cells, slope_cells, slopes_cells, component_cells, pin_cells, model_cells, ramp_cells, fixture_cells, device_cells, waveform_cells, row_cells}
use Rattle.rules.specs.Whole.{texts_of}
use Rattle.rules.specs.Reading.{file_in}
use Rattle.layout.specs.Laid.{laid}
use Rattle.table_records.specs.Fine.{FineTriple, FineSplit, FineSlope, FineSlopes, FineComponent, FinePin, FineModel, FineWaveform, FineRow}
use Rattle.handed_out.proofs.Fine.{fine}
use Rattle.read_doubles.specs.Given.{Given, ReadGiven}

given : (c : Cell) → FineCell c → Given c
given c h = record { counts = all-count c h; faithful = faithful c h; word = ap double_of (kept c h) }

record All (l : List Cell) : Type 0 where
  every : Every Given l

none : All []
none = record { every = tt }

onto : (c : Cell) {l : List Cell} → FineCell c → All l → All (c ∷ l)
onto c h e = record { every = (given c h, e.every) }

both : {l m : List Cell} → All l → All m → All (l ++ m)
both {l} {m} e f = record { every = every_append Given l m e.every f.every }

-- ---- the cells of each record

triple : (t : Triple) → FineTriple t → All (triple_cells t)
triple t h = onto t.typ h.typ (onto t.min h.min (onto t.max h.max none))

if-given : (b : Bool) {l : List Cell} → All l → All (cond b l [])
if-given true e = e
if-given false e = none

range : (r : Range) → FineTriple r.cells → All (range_cells r)
range r h = if-given r.given (triple r.cells h)

component : (c : Component) → FineComponent c → All (component_cells c)
unfolding component_cells
component c h = both (both (triple c.resistance h.resistance) (triple c.inductance h.inductance)) (triple c.capacitance h.capacitance)

pin : (p : Pin) → FinePin p → All (pin_cells p)
unfolding pin_cells
pin p h = onto p.resistance h.resistance (onto p.inductance h.inductance (onto p.capacitance h.capacitance none))

split : (s : Split) → FineSplit s → All (split_cells s)
unfolding split_cells
split s h = both (both (both (range s.pullup h.pullup) (range s.pulldown h.pulldown)) (range s.power h.power)) (range s.ground h.ground)

levels : (m : Model) → FineModel m → All (level_cells m)
unfolding level_cells
levels m h =
    onto m.vinl h.vinl
    (onto m.vinh h.vinh
    (onto m.vmeas h.vmeas
    (onto m.cref h.cref
    (onto m.rref h.rref
    (onto m.vref h.vref none)))))

model : (m : Model) → FineModel m → All (model_cells m)
unfolding model_cells
model m h =
    both (both (both (both (triple m.comp h.comp) (split m.split h.split)) (levels m h)) (triple m.voltage h.voltage))
    (range m.temperature h.temperature)

slope : (r : RampCell) → FineSlope r → All (slope_cells r)
slope (Ratio a b) h = onto (Number a) h.0 (onto (Number b) h.1 none)
slope Absent h = onto Missing tt none

slopes : (t : RampTriple) → FineSlopes t → All (slopes_cells t)
unfolding slopes_cells
slopes t h = both (both (slope t.typ h.typ) (slope t.min h.min)) (slope t.max h.max)

ramp : (m : Model) → FineModel m → All (ramp_cells m.ramp)
unfolding ramp_cells
ramp m h =
    if-given m.ramp.given (both (both (slopes m.ramp.rise h.rise) (slopes m.ramp.fall h.fall)) (onto m.ramp.load h.load none))

fixtures : (w : Waveform) → FineWaveform w → All (fixture_cells w)
unfolding fixture_cells
fixtures w h =
    onto w.rfixture h.rfixture
    (onto w.vfixture h.vfixture
    (onto w.vmin h.vmin
    (onto w.vmax h.vmax
    (onto w.cfixture h.cfixture
    (onto w.lfixture h.lfixture none)))))

devices : (w : Waveform) → FineWaveform w → All (device_cells w)
unfolding device_cells
devices w h = onto w.rdut h.rdut (onto w.ldut h.ldut (onto w.cdut h.cdut none))

waveform : (w : Waveform) → FineWaveform w → All (waveform_cells w)
unfolding waveform_cells
waveform w h = both (fixtures w h) (devices w h)

row : (r : Row) → FineRow r → All (row_cells r)
unfolding row_cells
row r h = onto (Number r.number) h.number (triple r.cells h.cells)

pub read-given : ReadGiven
read-given s bytes =
    let a = laid (file_in (texts_of s)) in
    let f = fine s bytes in
    record {
      components = every_map FineComponent _ a.components (λ x h. (component x h).every) f.components;
      pins = every_map FinePin _ a.pins (λ x h. (pin x h).every) f.pins;
      models = every_map FineModel _ a.models (λ x h. (model x h).every) f.models;
      ramps = every_map FineModel _ a.models (λ x h. (ramp x h).every) f.models;
      waveforms = every_map FineWaveform _ a.waveforms (λ x h. (waveform x h).every) f.waveforms;
      rows = every_map FineRow _ a.rows (λ x h. (row x h).every) f.rows;
    }
