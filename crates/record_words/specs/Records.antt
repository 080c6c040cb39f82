-- Records as words, in the order of their fields.
use Rattle.std.specs.Prelude.{ℕ, zero, suc, ◌*◌, ◌/◌, List, [], ◌∷◌, ◌++◌}
use Rattle.decimal.specs.Decimal.{word_of}
use Rattle.records.specs.Types.{type_number}
use Rattle.records.specs.declared.Triple.{Triple}
use Rattle.records.specs.declared.RampTriple.{RampTriple}
use Rattle.records.specs.declared.RampTable.{RampTable}
use Rattle.records.specs.declared.Range.{Range}
use Rattle.records.specs.declared.Span.{Span}
use Rattle.records.specs.declared.Table.{Table}
use Rattle.records.specs.declared.Text.{Text}
use Rattle.records.specs.Texts.{Name, Words}
use Rattle.records.specs.declared.Component.{Component}
use Rattle.records.specs.declared.Pin.{Pin}
use Rattle.records.specs.declared.Selector.{Selector}
use Rattle.records.specs.declared.Choice.{Choice}
use Rattle.records.specs.declared.Model.{Model}
use Rattle.records.specs.declared.Waveform.{Waveform}
use Rattle.record_words.specs.Values.{eight_at, flag_number, location_number, polarity_number, enable_number, edge_number, dividend_word, divisor_word}

-- ---- parts of records

-- the words of the first n eights of bytes
unfoldable pub eights : List ℕ → ℕ → List ℕ
eights b zero = []
eights b (suc n) = eights b n ++ (eight_at b (8 * n) ∷ [])

-- n bytes, eight to a word, and their count
unfoldable pub laid_words : (n : ℕ) → Text n → List ℕ
laid_words n t = eights t.bytes (n / 8) ++ (t.len ∷ [])

-- 40 bytes and their count
abbrev pub name_words : Name → List ℕ
name_words n = eight_at n.bytes 0 ∷ eight_at n.bytes 8 ∷ eight_at n.bytes 16 ∷ eight_at n.bytes 24 ∷ eight_at n.bytes 32 ∷ n.len ∷ []

-- 120 bytes and their count
abbrev pub text_words : Words → List ℕ
text_words w =
    eight_at w.bytes 0
    ∷ eight_at w.bytes 8
    ∷ eight_at w.bytes 16
    ∷ eight_at w.bytes 24
    ∷ eight_at w.bytes 32
    ∷ eight_at w.bytes 40
    ∷ eight_at w.bytes 48
    ∷ eight_at w.bytes 56
    ∷ eight_at w.bytes 64
    ∷ eight_at w.bytes 72
    ∷ eight_at w.bytes 80
    ∷ eight_at w.bytes 88
    ∷ eight_at w.bytes 96
    ∷ eight_at w.bytes 104
    ∷ eight_at w.bytes 112
    ∷ w.len
    ∷ []

abbrev pub span_words : Span → List ℕ
span_words p = p.start ∷ p.count ∷ []

abbrev pub triple_words : Triple → List ℕ
triple_words t = word_of t.typ ∷ word_of t.min ∷ word_of t.max ∷ []

abbrev pub range_words : Range → List ℕ
range_words r = flag_number r.given ∷ triple_words r.cells

abbrev pub slope_words : RampTriple → List ℕ
slope_words t =
    dividend_word t.typ ∷ divisor_word t.typ ∷ dividend_word t.min ∷ divisor_word t.min ∷ dividend_word t.max ∷ divisor_word t.max ∷ []

abbrev pub ramp_words : RampTable → List ℕ
ramp_words r = (flag_number r.given ∷ slope_words r.rise) ++ slope_words r.fall ++ (word_of r.load ∷ [])

abbrev pub table_words : Table → List ℕ
table_words t = flag_number t.given ∷ span_words t.rows

-- ---- records

abbrev pub component_words : Component → List ℕ
component_words c =
    (c.section ∷ name_words c.name)
    ++ (location_number c.si ∷ location_number c.timing ∷ name_words c.manufacturer)
    ++ triple_words c.resistance
    ++ triple_words c.inductance
    ++ triple_words c.capacitance
    ++ span_words c.pins

abbrev pub pin_words : Pin → List ℕ
pin_words p =
    name_words p.name ++ name_words p.signal ++ name_words p.model ++ (word_of p.resistance ∷ word_of p.inductance ∷ word_of p.capacitance ∷ [])

abbrev pub selector_words : Selector → List ℕ
selector_words s = (s.section ∷ name_words s.name) ++ span_words s.choices

abbrev pub choice_words : Choice → List ℕ
choice_words c = name_words c.model ++ text_words c.description

abbrev pub model_first : Model → List ℕ
model_first m =
    (m.section ∷ name_words m.name)
    ++ (type_number m.kind ∷ polarity_number m.polarity ∷ enable_number m.enable ∷ triple_words m.comp)

abbrev pub model_split : Model → List ℕ
model_split m =
    range_words m.split.pullup ++ range_words m.split.pulldown ++ range_words m.split.power ++ range_words m.split.ground

abbrev pub model_levels : Model → List ℕ
model_levels m =
    (word_of m.vinl ∷ word_of m.vinh ∷ word_of m.vmeas ∷ word_of m.cref ∷ word_of m.rref ∷ word_of m.vref ∷ [])
    ++ triple_words m.voltage
    ++ range_words m.temperature

abbrev pub model_tables : Model → List ℕ
model_tables m =
    table_words m.pulldown
    ++ table_words m.pullup
    ++ table_words m.ground
    ++ table_words m.power

abbrev pub model_words : Model → List ℕ
model_words m = model_first m ++ model_split m ++ model_levels m ++ model_tables m ++ ramp_words m.ramp ++ span_words m.waveforms

abbrev pub waveform_words : Waveform → List ℕ
waveform_words w =
    (edge_number w.edge ∷ word_of w.rfixture ∷ word_of w.vfixture ∷ word_of w.vmin ∷ word_of w.vmax ∷ [])
    ++ (word_of w.cfixture ∷ word_of w.lfixture ∷ word_of w.rdut ∷ word_of w.ldut ∷ word_of w.cdut ∷ span_words w.rows)

-- ---- how many words each record is, and each row of the row store

abbrev pub component_size : ℕ
component_size = 26

abbrev pub pin_size : ℕ
pin_size = 21

abbrev pub selector_size : ℕ
selector_size = 9

abbrev pub choice_size : ℕ
choice_size = 22

abbrev pub model_size : ℕ
model_size = 70

abbrev pub waveform_size : ℕ
waveform_size = 12

abbrev pub row_size : ℕ
row_size = 4
