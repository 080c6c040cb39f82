-- Lines of a label and what stands behind it: "Fields are separated by exactly one space".
use Rattle.std.specs.Prelude.{ℕ, List, ◌++◌, cond}
use Rattle.laws.specs.Bytes.{bytes}
use Rattle.decimal.specs.declared.Cell.{Cell}
use Rattle.records.specs.Texts.{Name, Words}
use Rattle.records.specs.declared.Triple.{Triple}
use Rattle.records.specs.declared.Range.{Range}
use Rattle.text_buffer.specs.Lines.{name_text, words_text, count_text, next_cell}

-- "Three cells are three cells with one space between"; one before them too
unfoldable pub triple_text : Triple → List ℕ
triple_text t = next_cell t.typ ++ next_cell t.min ++ next_cell t.max

unfoldable pub cell_line : List ℕ → Cell → List ℕ
cell_line label c = label ++ next_cell c ++ bytes "\n"

unfoldable pub triple_line : List ℕ → Triple → List ℕ
triple_line label t = label ++ triple_text t ++ bytes "\n"

unfoldable pub count_line : List ℕ → ℕ → List ℕ
count_line label n = label ++ count_text n ++ bytes "\n"

unfoldable pub name_line : List ℕ → Name → List ℕ
name_line label n = label ++ bytes " " ++ name_text n ++ bytes "\n"

unfoldable pub words_line : List ℕ → Words → List ℕ
words_line label w = label ++ bytes " " ++ words_text w ++ bytes "\n"

-- a section's kind, its index and its name
unfoldable pub section_line : List ℕ → ℕ → Name → List ℕ
section_line label index n = label ++ count_text index ++ name_line (bytes "") n

-- "`TEMPERATURE_RANGE -` if absent"
unfoldable pub range_line : List ℕ → Range → List ℕ
range_line label r = cond r.given (triple_line label r.cells) (label ++ bytes " -\n")
