-- Document 02, "No surprise halfway through loading": "A row takes at least eight bytes of file, its line end counted. Show that no file then
-- runs short". Said of rows that stand in lines, of rows that are read, and of rows that lie in the tables.
use Rattle.std.specs.Prelude.{ℕ, ◌+◌, ◌*◌, ◌≤◌, ◌<◌, ◌≡◌, List, [], ◌∷◌, Bool, true, false, cond, length, Result, Ok, Err}
use Rattle.records.specs.Bounds.{most_rows}
use Rattle.lines.specs.Lines.{lines_of, fault_from, bytes_fault}
use Rattle.cut_lines.specs.Texts.{Text, plain, change, texts_from}
use Rattle.line_rules.specs.Fields.{row_of}
use Rattle.rules.specs.Steps.{on_text}
use Rattle.rules.specs.Whole.{texts_of}
use Rattle.rules.specs.Reading.{file_in}
use Rattle.rules.specs.declared.Stage.{Stage}
use Rattle.rules.specs.declared.Stage.TheVariants.{BeforeVersion}
use Rattle.rules.specs.declared.Event.{Event}
use Rattle.rules.specs.declared.Event.TheVariants.{Quiet, Opened, PinRow, ChoiceRow, WaveformOpened, TableRow, Ended}
use Rattle.rules.specs.Going.{Went}
use Rattle.layout.specs.Laid.{laid}

-- ---- rows that stand in lines

-- something is said, and is no fault
abbrev pub is_said : {F A : Type 0} → Result A F → Bool
is_said (Ok a) = true
is_said (Err f) = false

-- the text of a line that reads as a row: "A row is a number and three cells"
unfoldable pub is_row : List ℕ → Bool
is_row w = is_said (row_of w)

-- the rows on a line that cutting leaves, one or none; a [Comment Char] line is none
abbrev pub rows_on : Text → ℕ
rows_on (plain k w) = cond (is_row w) 1 0
rows_on (change k f) = 0

-- how many of the texts are rows, wherever they stand
unfoldable pub rows_among : List Text → ℕ
rows_among [] = 0
rows_among (t ∷ ts) = rows_on t + rows_among ts

-- ---- rows that are read

-- the rows that an event tells
abbrev pub rows_said : Event → ℕ
rows_said Quiet = 0
rows_said (Opened s) = 0
rows_said PinRow = 0
rows_said ChoiceRow = 0
rows_said WaveformOpened = 0
rows_said TableRow = 1
rows_said (Ended f) = 0

-- the row of a line's step, if it gives one, and those behind the line; a step that refuses its line ends the reading
abbrev pub with_rows : (Stage → ℕ) → Went → ℕ
with_rows behind (Ok (s, e)) = rows_said e + behind s
with_rows behind (Err f) = 0

-- the rows that the steps read, from the top up to the first line that a step refuses; a name used twice or a bound passed (14, 17) would end
-- the reading sooner
unfoldable pub rows_read : Stage → List Text → ℕ
rows_read s [] = 0
rows_read s (t ∷ ts) = with_rows (λ (u : Stage). rows_read u ts) (on_text s t)

-- ---- what holds of them

-- four words with three blanks between take seven bytes, and the line's end is the eighth
abbrev pub RowTakesEight : Type 0
RowTakesEight = (w : List ℕ) → is_row w ≡ true → 7 ≤ length w

-- no two rows share a byte: for any comment character c in force at the first line, also where a [Comment Char] line changes it, and whether
-- lines are ended by LF or CR LF
abbrev pub LinesHoldRows : Type 0
LinesHoldRows = (c k : ℕ) (s : List ℕ) → fault_from k (lines_of s) ≡ Ok tt → 8 * rows_among (texts_from c k (lines_of s)) ≤ length s

-- every row that is reached, in refused files too
abbrev pub ReadFit : Type 0
ReadFit = (s : List ℕ) → bytes_fault s ≡ Ok tt → rows_read BeforeVersion (texts_of s) < most_rows

-- every row that lies in the tables, whether the file is accepted or not
abbrev pub LaidFit : Type 0
LaidFit = (s : List ℕ) → bytes_fault s ≡ Ok tt → length (laid (file_in (texts_of s))).rows < most_rows
