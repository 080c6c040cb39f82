-- The whole file: the first fault in document 01's order, or that there is none, for given lengths of tables; and the same where rows are lent too.
use Rattle.std.specs.Prelude.{ℕ, ◌+◌, min, List, [], ◌∷◌, reverse, cond, length, eqb, leb, Result, Ok, Err}
use Prim.Native.Char.{code}
use Rattle.words.specs.Words.{word, words}
use Rattle.lines.specs.Lines.{lines_of, bytes_fault}
use Rattle.keywords.specs.Form.{argument}
use Rattle.keywords.specs.declared.Section.{Section}
use Rattle.keywords.specs.declared.Section.TheVariants.{Component, Selector, Model}
use Rattle.cut_lines.specs.Texts.{Text, plain, change, texts_from}
use Rattle.rules.specs.Steps.{is_ended, on_text}
use Rattle.rules.specs.Outline.{Entry, is, count, is_used, is_found, is_listed, first_failing}
use Rattle.records.specs.Flaws.{bare}
use Rattle.records.specs.Bounds.{most, most_waveforms, most_rows}
use Rattle.records.specs.declared.Kind.{Kind}
use Rattle.records.specs.declared.Kind.TheVariants.{OfComponent, OfPin, OfSelector, OfChoice, OfModel}
use Rattle.records.specs.declared.LineFault.{LineFault}
use Rattle.records.specs.declared.Lengths.{Lengths}
use Rattle.records.specs.declared.Lending.{Lending}
use Rattle.records.specs.declared.Fault.{Fault}
use Rattle.rules.specs.declared.Stage.{Stage}
use Rattle.rules.specs.declared.Stage.TheVariants.{BeforeVersion}
use Rattle.rules.specs.declared.Event.{Event}
use Rattle.rules.specs.declared.Event.TheVariants.{Quiet, Opened, PinRow, ChoiceRow, WaveformOpened, TableRow, Ended}
use Rattle.rules.specs.Going.{Went}

-- ---- bounds: "A lent table other than the rows that is shorter than its bound has its length as the bound"

abbrev pub bound : Lengths → Kind → ℕ
bound l OfComponent = min (most OfComponent) l.components
bound l OfPin = min (most OfPin) l.pins
bound l OfSelector = min (most OfSelector) l.selectors
bound l OfChoice = min (most OfChoice) l.choices
bound l OfModel = min (most OfModel) l.models

-- ---- what the file holds so far: what is named, the latest first; how many waveforms

pub record Held : Type 0 where
  pub entries : List Entry
  pub waveforms : ℕ

abbrev pub nothing_held : Held
nothing_held = record { entries = []; waveforms = 0 }

-- 14, then 17
unfoldable pub admit_entry : Lengths → Held → Entry → Result Held LineFault
admit_entry l h e =
    cond (is_used e.kind e.name h.entries) (Err (bare 14))
    (cond (leb (bound l e.kind) (count (is e.kind) h.entries)) (Err (bare 17))
    (Ok (record { entries = e ∷ h.entries; waveforms = h.waveforms })))

-- the entry of a section's keyword line, w being its argument
abbrev pub section_entry : ℕ → List ℕ → Section → Entry
section_entry k w Component = record { kind = OfComponent; line = k; name = w; names = [] }
section_entry k w Selector = record { kind = OfSelector; line = k; name = word 0 (words w); names = [] }
section_entry k w Model = record { kind = OfModel; line = k; name = word 0 (words w); names = [] }

-- the entry of a row, which names the model of its word n
abbrev pub row_entry : Kind → ℕ → ℕ → List ℕ → Entry
row_entry x k n w = record { kind = x; line = k; name = word 0 (words w); names = word n (words w) }

-- line k, whose text is w, adds to the file; at [End] first "no component" (9), then its own 10
abbrev pub admit : Lengths → Held → ℕ → List ℕ → Event → Result Held LineFault
admit l h k w Quiet = Ok h
admit l h k w (Opened s) = admit_entry l h (section_entry k (argument w) s)
admit l h k w PinRow = admit_entry l h (row_entry OfPin k 2 w)
admit l h k w ChoiceRow = admit_entry l h (row_entry OfChoice k 0 w)
admit l h k w WaveformOpened =
    cond (leb (min most_waveforms l.waveforms) h.waveforms) (Err (bare 17))
    (Ok (record { entries = h.entries; waveforms = h.waveforms + 1 }))
admit l h k w TableRow = Ok h
admit l h k w (Ended f) =
    cond (eqb (count (is OfComponent) h.entries) 0) (Err (bare 9))
    (cond (eqb f.number 0) (Ok h) (Err f))

-- ---- lines from the top

pub data Outcome : Type 0 where
  passed : Held → Outcome
  -- the number of the fault, the line and the column told
  refused : ℕ → ℕ → ℕ → Outcome

abbrev pub text_of : Text → List ℕ
text_of (plain k w) = w
text_of (change k f) = []

abbrev pub line_of : Text → ℕ
line_of (plain k w) = k
line_of (change k f) = k

-- a line's own fault is told there
abbrev pub after_admission : ℕ → (Held → Outcome) → Result Held LineFault → Outcome
after_admission k go (Ok h) = go h
after_admission k go (Err f) = refused f.number k f.column

abbrev pub after_step : Lengths → Held → Text → (Stage → Held → Outcome) → Went → Outcome
after_step l h t go (Ok (s, e)) = after_admission (line_of t) (go s) (admit l h (line_of t) (text_of t) e)
after_step l h t go (Err f) = refused f.number f.line f.column

-- past is the number of the line after the last: "A file that runs out gives 19 before anything it would close"
unfoldable pub runs : Lengths → ℕ → Stage → Held → List Text → Outcome
runs l past s h [] = cond (is_ended s) (passed h) (refused 19 past 0)
runs l past s h (t ∷ ts) = after_step l h t (λ (u : Stage) (g : Held). runs l past u g ts) (on_text s t)

-- ---- "Last, 15 over all pin and selector rows, then 16 over sections, each from the top of the file"

unfoldable pub last_checks : List Entry → Outcome → Outcome
last_checks es done =
    let missing = first_failing (λ e. is_found es e e.kind) es in
    let unlisted = first_failing (λ e. is_listed es e e.kind) es in
    cond (eqb missing 0) (cond (eqb unlisted 0) done (refused 16 unlisted 0)) (refused 15 missing 0)

abbrev pub concluded : Outcome → Outcome
concluded (passed h) = last_checks (reverse h.entries) (passed h)
concluded (refused n k c) = refused n k c

-- ---- a file that is checked: no row is kept, and so none is asked for

unfoldable pub texts_of : List ℕ → List Text
texts_of s = texts_from (code "|") 1 (lines_of s)

abbrev pub after_bytes : Outcome → Result (Unit {0}) Fault → Outcome
after_bytes go (Ok tt) = go
after_bytes go (Err f) = refused f.number f.line f.column

-- "Order: 1; then 2, 3, 4 over all lines ..; then lines from the top .. Last, 15 .., then 16"
unfoldable pub outcome : Lengths → List ℕ → Outcome
outcome l s =
    after_bytes (concluded (runs l (length (lines_of s) + 1) BeforeVersion nothing_held (texts_of s))) (bytes_fault s)

-- ---- a file that is loaded, where rows are lent too; document 02: "25, before fault 1, exactly if fewer than 8,192 rows are lent"

unfoldable pub loading : Lending → List ℕ → Outcome
loading l s = cond (leb most_rows l.rows) (outcome l.tables s) (refused 25 0 0)
