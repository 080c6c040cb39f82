-- Document 01, "Sections": [Model] with its first lines, its ranges, current tables, ramp and waveforms.
use Rattle.std.specs.Prelude.{ℕ, ◌+◌, min, List, [], ◌∷◌, Bool, true, false, cond, not, ◌&&◌, ◌||◌, eqb, leb, Result, Ok, Err}
use Rattle.laws.specs.Bytes.{bytes, is_letter}
use Rattle.laws.specs.Lists.{one_of}
use Rattle.decimal.specs.Decimal.{less_than, offset}
use Rattle.decimal.specs.declared.Decimal.{Decimal}
use Rattle.decimal.specs.declared.Cell.{Cell}
use Rattle.decimal.specs.declared.Cell.TheVariants.{Number, Missing}
use Rattle.words.specs.Words.{word, words}
use Rattle.keywords.specs.Form.{argument}
use Rattle.keywords.specs.declared.ModelPart.{ModelPart}
use Rattle.keywords.specs.declared.ModelPart.TheVariants.{VoltageRange, TemperatureRange, Current, Ramp, Waveform}
use Rattle.keywords.specs.declared.CurrentTable.TheVariants.{Pulldown, Pullup, GndClamp, PowerClamp}
use Rattle.records.specs.Flaws.{Flaw, flaw_in, told, told_in}
use Rattle.records.specs.declared.LineFault.{LineFault}
use Rattle.records.specs.declared.Row.{Row}
use Rattle.records.specs.declared.Edge.TheVariants.{Rising}
use Rattle.records.specs.declared.ModelType.TheVariants.{Terminator}
use Rattle.line_rules.specs.Fields.{name_of, is_named, line_at, word_line, cells_line, slopes_line, number_line, takes, three_cells, row_of, no_argument}
use Rattle.line_rules.specs.Tables.{model_lines, capacitances, model_types, polarities, enables, ramp_lines, fixtures}
use Rattle.given.specs.Given.{none_given, has, gave}
use Rattle.given.specs.declared.Given.{Given}
use Rattle.rules.specs.Types.{is_input, is_driven, thresholds, is_below}
use Rattle.rules.specs.Going.{stop, stop_at, unless, passes, refuse, quietly, once, named_line, Went}
use Rattle.rules.specs.declared.RowsSeen.{RowsSeen}
use Rattle.rules.specs.declared.ModelList.{ModelList}
use Rattle.rules.specs.declared.ModelList.TheVariants.{ModelFirst, ModelShut, CurrentRows, RampLines, WaveformRows}
use Rattle.rules.specs.declared.ModelState.{ModelState}
use Rattle.rules.specs.declared.Stage.TheVariants.{InModel}
use Rattle.rules.specs.declared.Event.TheVariants.{WaveformOpened, TableRow}

abbrev pub new_model : ℕ → ModelState
new_model k =
    record { line = k; first = none_given; kind = Terminator; vinl = Missing; vinh = Missing; parts = none_given; waveforms = 0; list = ModelFirst }

-- the same with another list open, and what was given of its parts
abbrev pub with_parts : ModelState → Given → ℕ → ModelList → ModelState
with_parts m g n l =
    record { line = m.line; first = m.first; kind = m.kind; vinl = m.vinl; vinh = m.vinh; parts = g; waveforms = n; list = l }

abbrev pub with_model_list : ModelState → ModelList → ModelState
with_model_list m l = with_parts m m.parts m.waveforms l

-- ---- the first lines, "in any order, at most once each"

-- Model_type, Polarity and Enable take a word of their tables, C_comp and its four parts three cells, the others `=` and a number
unfoldable pub first_flaw : List ℕ → Flaw
first_flaw w =
    cond (is_named "Model_type" w) (flaw_in (word_line model_types w))
    (cond (is_named "Polarity" w) (flaw_in (word_line polarities w))
    (cond (is_named "Enable" w) (flaw_in (word_line enables w))
    (cond (one_of (name_of w) (words (bytes capacitances))) (flaw_in (cells_line w))
    (flaw_in (number_line w)))))

-- the type, Vinl and Vinh are remembered for the close
unfoldable pub with_first : ModelState → List ℕ → Given → ModelState
with_first m w g =
    record {
      line = m.line;
      first = g;
      kind = takes "Model_type" (word_line model_types) m.kind w;
      vinl = takes "Vinl" number_line m.vinl w;
      vinh = takes "Vinh" number_line m.vinh w;
      parts = m.parts;
      waveforms = m.waveforms;
      list = m.list;
    }

-- ---- rows: "A row is a number and three cells; the first column rises strictly"

abbrev pub is_number : Cell → Bool
is_number (Number d) = true
is_number Missing = false

abbrev pub no_rows : RowsSeen
no_rows = record { count = 0; last = record { negative = false; digits = 0; power = offset }; head = false; tail = false }

unfoldable pub rises : RowsSeen → Decimal → Bool
rises r d = cond (eqb r.count 0) true (less_than r.last d)

-- rows are counted up to 1,001: no table may have more, and no caller has to keep a bound
abbrev pub with_row : RowsSeen → Decimal → Bool → RowsSeen
with_row r d typ = record { count = min (r.count + 1) 1001; last = d; head = cond (eqb r.count 0) typ r.head; tail = typ }

-- how a table goes on with more rows
abbrev pub row_line : (RowsSeen → ModelList) → ModelState → RowsSeen → ℕ → Result Row LineFault → Went
row_line on m r k (Err f) = stop_at f k
row_line on m r k (Ok l) =
    refuse (not (rises r l.number)) 13 k
    (Ok (InModel (with_model_list m (on (with_row r l.number (is_number l.cells.typ)))), TableRow))

-- ---- [Ramp]: "dV/dt_r and dV/dt_f once each", "`R_load =` at most once"

unfoldable pub ramp_flaw : List ℕ → Flaw
ramp_flaw w = cond (is_named "R_load" w) (flaw_in (number_line w)) (flaw_in (slopes_line w))

-- ---- waveforms: "Before its rows a waveform has at most once each, as name `=` number", the lines of `fixtures`

-- "A line whose first word begins with a letter is such a line, and 7 after the first row"
unfoldable pub begins_letter : List ℕ → Bool
begins_letter [] = false
begins_letter (b ∷ bs) = is_letter b

unfoldable pub waveform_line : ModelState → ℕ → Given → RowsSeen → ℕ → List ℕ → Went
waveform_line m o g r k w =
    cond (begins_letter (word 0 (words w)))
    (refuse (not (eqb r.count 0)) 7 k (named_line g (line_at fixtures w) (flaw_in (number_line w)) k w (λ h. InModel (with_model_list m (WaveformRows o h r)))))
    (row_line (WaveformRows o g) m r k (told_in w (row_of w)))

-- ---- a line that is no keyword line, by the list or table that is open

abbrev pub model_line : ModelState → ℕ → List ℕ → ModelList → Went
model_line m k w ModelFirst = named_line m.first (line_at model_lines w) (first_flaw w) k w (λ g. InModel (with_first m w g))
model_line m k w ModelShut = stop 7 k
model_line m k w (CurrentRows o r) = row_line (CurrentRows o) m r k (told_in w (row_of w))
model_line m k w (RampLines o g) = named_line g (line_at ramp_lines w) (ramp_flaw w) k w (λ h. InModel (with_model_list m (RampLines o h)))
model_line m k w (WaveformRows o g r) = waveform_line m o g r k w

-- ---- "Then, any order: [Voltage Range] (required), [Temperature Range], three cells on the line; the four current tables; [Ramp]; each at
-- most once; waveforms"

abbrev pub model_place : ModelPart → ℕ
model_place VoltageRange = 0
model_place TemperatureRange = 1
model_place (Current Pulldown) = 2
model_place (Current Pullup) = 3
model_place (Current GndClamp) = 4
model_place (Current PowerClamp) = 5
model_place Ramp = 6
model_place (Waveform e) = 7

-- "Keywords without an argument named here take none"
abbrev pub model_flaw : List ℕ → ModelPart → Flaw
model_flaw argument p = cond (leb (model_place p) (model_place TemperatureRange)) (flaw_in (three_cells argument)) (no_argument argument)

abbrev pub model_opens : ℕ → ModelPart → ModelList
model_opens k VoltageRange = ModelShut
model_opens k TemperatureRange = ModelShut
model_opens k (Current t) = CurrentRows k no_rows
model_opens k Ramp = RampLines k none_given
model_opens k (Waveform e) = WaveformRows k none_given no_rows

-- the parts that may stand once
unfoldable pub single_part : ModelState → ℕ → List ℕ → ModelPart → Went
single_part m k w p =
    once m.parts (model_place p) (told w (model_flaw (argument w) p)) k (λ g. InModel (with_parts m g m.waveforms (model_opens k p)))

-- "16 waveforms a model": 17 at the next
unfoldable pub waveform_part : ModelState → ℕ → List ℕ → ModelPart → Went
waveform_part m k w p =
    passes (told w (model_flaw (argument w) p)) k
    (refuse (leb 16 m.waveforms) 17 k
    (Ok (InModel (with_parts m m.parts (m.waveforms + 1) (model_opens k p)), WaveformOpened)))

-- "each at most once; waveforms"
abbrev pub model_part : ModelState → ℕ → List ℕ → ModelPart → Went
model_part m k w p = cond (eqb (model_place p) (model_place (Waveform Rising))) (waveform_part m k w p) (single_part m k w p)

-- ---- closing

-- "2 to 100 rows; waveforms, 2 to 1,000"; "the first and last typ are numbers"
unfoldable pub table_fault : ℕ → RowsSeen → ℕ
table_fault most r = cond (leb 2 r.count && (leb r.count most && (r.head && r.tail))) 0 13

abbrev pub closed : ModelState → Went
closed m = quietly (InModel (with_model_list m ModelShut))

-- R_fixture and V_fixture "(both required)"
abbrev pub model_shut : ModelState → ModelList → Went
model_shut m ModelFirst = closed m
model_shut m ModelShut = closed m
model_shut m (CurrentRows o r) = unless (table_fault 100 r) o (closed m)
model_shut m (RampLines o g) = refuse (not (gave g ramp_lines "dV/dt_r" && gave g ramp_lines "dV/dt_f")) 9 o (closed m)
model_shut m (WaveformRows o g r) =
    refuse (not (gave g fixtures "R_fixture" && gave g fixtures "V_fixture")) 9 o (unless (table_fault 1000 r) o (closed m))

-- Model_type, C_comp, [Voltage Range] and [Ramp] as required, else 9; then 20
unfoldable pub model_done : ModelState → ℕ
model_done m =
    let t = thresholds m.kind m.vinl m.vinh in
    cond (gave m.first model_lines "Model_type" && (gave m.first model_lines "C_comp" && (has m.parts (model_place VoltageRange) && (not (is_driven m.kind) || has m.parts (model_place Ramp)))))
    (cond (is_input m.kind && not (is_below t.vinl t.vinh)) 20 0)
    9
