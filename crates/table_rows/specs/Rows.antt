-- The rows of a table, and what the function that writes them answers.
use Rattle.std.specs.Prelude.{ℕ, ◌+◌, ◌≤◌, ◌≡◌, List, [], ◌∷◌, length, Ok, Err}
use Rattle.cut_lines.specs.Cursors.{rest}
use Rattle.cut_lines.specs.declared.Cursor.{Cursor}
use Rattle.rules.specs.Reading.{under, rows_in}
use Rattle.records.specs.Flaws.{Reads}
use Rattle.records.specs.Stored.{stored, over}
use Rattle.records.specs.declared.Row.{Row}
use Rattle.line_cells.specs.declared.RowWords.{RowWords}
use Rattle.lines_under.specs.Under.{StopsAt}
use Rattle.table_rows.specs.declared.Filled.{Filled}

-- n words are written over what was there, at the front
pub record Lies (before now : List ℕ) (n : ℕ) (written : List ℕ) : Type 0 where
  pub used : n ≡ length written
  pub store : now ≡ over before written

-- the rows of the table whose lines begin at a cursor
abbrev pub rows_at : List ℕ → Cursor → List Row
rows_at s c = rows_in (under (rest s c))

-- the words of a row's cells, one behind the other
abbrev pub four_words : RowWords → List ℕ
four_words r = r.number ∷ r.typ ∷ r.min ∷ r.max ∷ []

-- a line more: it has a row, or nothing
abbrev pub with_said_row : {X : Type 0} → (X → Row → X) → X → Reads Row → X
with_said_row add x (Ok r) = add x r
with_said_row add x (Err f) = x

abbrev pub counted : ℕ → Reads Row → ℕ
counted = with_said_row (λ (n : ℕ) (r : Row). n + 1)

-- the words written, and the row store behind it; every row has a byte
pub record FillIs (s : List ℕ) (c : Cursor) (before behind : List ℕ) (r : Filled) : Type 0 where
  pub words : r.words ≡ length (stored (rows_at s c))
  pub rows : behind ≡ over before (stored (rows_at s c))
  pub stops : StopsAt s c r.next
  pub bounded : c.at + length (rows_at s c) ≤ r.next.at
