-- What was written comes back: each record's words are read as the record, by its fields; and the record at a place, among records of so many words each.
use Rattle.std.specs.Prelude.{Some}
use Prim.Native.Nat.{ℕ}
use mathlib.Core.Path.{◌≡◌, refl, sym, ap₂}
use mathlib.Core.Bool.{Bool}
use mathlib.Core.List.{List, ◌∷◌, ◌++◌}
use Rattle.decimal.specs.Decimal.{word_of}
use Rattle.decimal.specs.Answers.{cell_in}
use Rattle.decimal.specs.Fine.{FineCell}
use Rattle.decimal.specs.declared.Cell.TheVariants.{Number, Missing}
use Rattle.decimal.proofs.Cells.{kept}
use Rattle.records.specs.Stored.{row_words}
use Rattle.records.specs.declared.Triple.{Triple}
use Rattle.records.specs.declared.RampCell.{RampCell}
use Rattle.records.specs.declared.RampCell.TheVariants.{Ratio, Absent}
use Rattle.records.specs.declared.RampTriple.{RampTriple}
use Rattle.records.specs.declared.Span.{Span}
use Rattle.records.specs.declared.Table.{Table}
use Rattle.records.specs.declared.Row.{Row}
use Rattle.records.specs.declared.Component.{Component}
use Rattle.records.specs.declared.Pin.{Pin}
use Rattle.records.specs.declared.Selector.{Selector}
use Rattle.records.specs.declared.Choice.{Choice}
use Rattle.records.specs.declared.Model.{Model}
use Rattle.records.specs.declared.Waveform.{Waveform}
use Rattle.records.specs.declared.Range.{Range}
use Rattle.records.specs.declared.Split.{Split}
use Rattle.records.specs.declared.RampTable.{RampTable}
use Rattle.record_words.specs.Values.{dividend_word, divisor_word}
use Rattle.record_words.specs.Records.{span_words, triple_words, range_words, slope_words, ramp_words, table_words, component_words, pin_words, selector_words, choice_words, model_words, waveform_words}
use Rattle.table_records.specs.Values.{cell_at, slope_in}
use Rattle.table_records.specs.Records.{span_from, triple_from, slopes_from, table_from, range_from, split_from, ramp_from, component_from, pin_from, selector_from, choice_from, model_from, waveform_from, row_from}
use Rattle.table_records.specs.Fine.{FineTriple, FineSplit, FineSlope, FineSlopes, FineComponent, FinePin, FineSelector, FineChoice, FineModel, FineWaveform, FineRow}
use Rattle.table_records.proofs.Types.{type-back}
use Rattle.table_records.proofs.Back.{flag-back, location-back, polarity-back, enable-back, edge-back, name_back, text-back}
use Rattle.table_records.proofs.Whole.{component-is, pin-is, selector-is, choice-is, model_is, waveform-is}

-- ---- parts

span-back : (p : Span) (rest : List ℕ) → span_from (span_words p ++ rest) ≡ p
unfolding span_from
span-back p rest = refl

triple-back : (t : Triple) (rest : List ℕ) → FineTriple t → triple_from (triple_words t ++ rest) ≡ t
unfolding triple_from cell_at
triple-back t rest f = rw (kept t.typ f.typ, kept t.min f.min, kept t.max f.max) refl

slope-back : (c : RampCell) → FineSlope c → slope_in (cell_in (dividend_word c)) (cell_in (divisor_word c)) ≡ c
slope-back (Ratio a b) f = rw (kept (Number a) f.0, kept (Number b) f.1) refl
slope-back Absent f = rw (kept Missing tt) refl

slopes-back : (t : RampTriple) (rest : List ℕ) → FineSlopes t → slopes_from (slope_words t ++ rest) ≡ t
unfolding slopes_from cell_at
slopes-back t rest f = rw (slope-back t.typ f.typ, slope-back t.min f.min, slope-back t.max f.max) refl

table-back : (t : Table) (rest : List ℕ) → table_from (table_words t ++ rest) ≡ t
unfolding table_from
table-back t rest = rw (flag-back t.given, span-back t.rows rest) refl

-- ---- records

pub component-back : (c : Component) → FineComponent c → component_from (component_words c) ≡ c
component-back c f =
    sym (component-is (component_words c) _ _ _ _ _ _ _ _ _ refl (sym (name_back c.name _ f.name)) (sym (location-back c.si)) (sym (location-back c.timing)) (sym (name_back c.manufacturer _ f.manufacturer))
    (sym (triple-back c.resistance _ f.resistance)) (sym (triple-back c.inductance _ f.inductance)) (sym (triple-back c.capacitance _ f.capacitance)) (sym (span-back c.pins _)))

pub pin-back : (p : Pin) → FinePin p → pin_from (pin_words p) ≡ p
unfolding cell_at
pin-back p f =
    sym (pin-is (pin_words p) _ _ _ _ _ _ (sym (name_back p.name _ f.name)) (sym (name_back p.signal _ f.signal)) (sym (name_back p.model _ f.model))
    (sym (kept p.resistance f.resistance)) (sym (kept p.inductance f.inductance)) (sym (kept p.capacitance f.capacitance)))

pub selector-back : (s : Selector) → FineSelector s → selector_from (selector_words s) ≡ s
selector-back s f = sym (selector-is (selector_words s) _ _ _ refl (sym (name_back s.name _ f)) (sym (span-back s.choices _)))

pub choice-back : (c : Choice) → FineChoice c → choice_from (choice_words c) ≡ c
choice-back c f = sym (choice-is (choice_words c) _ _ (sym (name_back c.model _ f.model)) (sym (text-back c.description _ f.description)))

pub waveform-back : (w : Waveform) → FineWaveform w → waveform_from (waveform_words w) ≡ w
unfolding cell_at
waveform-back w f =
    sym (waveform-is (waveform_words w) _ _ _ _ _ _ _ _ _ _ _ (sym (edge-back w.edge)) (sym (kept w.rfixture f.rfixture)) (sym (kept w.vfixture f.vfixture)) (sym (kept w.vmin f.vmin)) (sym (kept w.vmax f.vmax))
    (sym (kept w.cfixture f.cfixture)) (sym (kept w.lfixture f.lfixture)) (sym (kept w.rdut f.rdut)) (sym (kept w.ldut f.ldut)) (sym (kept w.cdut f.cdut)) (sym (span-back w.rows _)))

pub row_back : (r : Row) → FineRow r → row_from (row_words r) ≡ Some r
unfolding row_from cell_at triple_from
row_back r f = rw (kept (Number r.number) f.number, kept r.cells.typ f.cells.typ, kept r.cells.min f.cells.min, kept r.cells.max f.cells.max) refl

range_back : (r : Range) (rest : List ℕ) → FineTriple r.cells → range_from (range_words r ++ rest) ≡ r
unfolding range_from
range_back r rest f = ap₂ (λ (g : Bool) (t : Triple). record { given = g; cells = t }) (flag-back r.given) (triple-back r.cells rest f)

split-back : (s : Split) (rest : List ℕ) → FineSplit s → split_from (range_words s.pullup ++ (range_words s.pulldown ++ (range_words s.power ++ (range_words s.ground ++ rest)))) ≡ s
unfolding split_from
split-back s rest f =
    rw (range_back s.pullup (range_words s.pulldown ++ (range_words s.power ++ (range_words s.ground ++ rest))) f.pullup, range_back s.pulldown (range_words s.power ++ (range_words s.ground ++ rest)) f.pulldown, range_back s.power (range_words s.ground ++ rest) f.power, range_back s.ground rest f.ground) refl

ramp-back : (r : RampTable) (rest : List ℕ) → FineSlopes r.rise → FineSlopes r.fall → FineCell r.load → ramp_from (ramp_words r ++ rest) ≡ r
unfolding ramp_from cell_at
ramp-back r rest rise fall load =
    rw (flag-back r.given, slopes-back r.rise (slope_words r.fall ++ (word_of r.load ∷ rest)) rise, slopes-back r.fall (word_of r.load ∷ rest) fall, kept r.load load) refl

pub model-back : (m : Model) → FineModel m → model_from (model_words m) ≡ m
unfolding cell_at
model-back m f =
    sym (model_is (model_words m) _ _ _ _ _ _ _ _ _ _ _ _ _ _ _ _ _ _ _ _ _ refl (sym (name_back m.name _ f.name)) (sym (type-back m.kind)) (sym (polarity-back m.polarity)) (sym (enable-back m.enable)) (sym (triple-back m.comp _ f.comp)) (sym (split-back m.split _ f.split))
    (sym (kept m.vinl f.vinl)) (sym (kept m.vinh f.vinh)) (sym (kept m.vmeas f.vmeas)) (sym (kept m.cref f.cref)) (sym (kept m.rref f.rref)) (sym (kept m.vref f.vref))
    (sym (triple-back m.voltage _ f.voltage)) (sym (range_back m.temperature _ f.temperature)) (sym (table-back m.pulldown _)) (sym (table-back m.pullup _)) (sym (table-back m.ground _)) (sym (table-back m.power _))
    (sym (ramp-back m.ramp _ f.rise f.fall f.load)) (sym (span-back m.waveforms _)))
