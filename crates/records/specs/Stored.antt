-- How a text lies in a record, a row in the row store, what is new over what a table held, and what stands where nothing is given.
use Rattle.std.specs.Prelude.{ℕ, ◌-◌, List, [], ◌∷◌, ◌++◌, length, take, drop, replicate}
use Rattle.decimal.specs.Decimal.{word_of}
use Rattle.decimal.specs.declared.Cell.TheVariants.{Number, Missing}
use Rattle.records.specs.declared.Triple.{Triple}
use Rattle.records.specs.declared.RampCell.TheVariants.{Absent}
use Rattle.records.specs.declared.RampTriple.{RampTriple}
use Rattle.records.specs.declared.Row.{Row}
use Rattle.records.specs.declared.Text.{Text}
use Rattle.records.specs.Texts.{Name, Words}

-- ---- a text: its bytes, then zeros

unfoldable pub padded : ℕ → List ℕ → List ℕ
padded n w = w ++ replicate (n - length w) 0

-- its first n bytes
abbrev pub text_laid : (n : ℕ) → List ℕ → Text n
text_laid n w = record { bytes = padded n (take n w); len = length (take n w) }

-- names that pass their checks have at most 40 bytes, and no line has more than 120: nothing is cut here
abbrev pub name_laid : List ℕ → Name
name_laid = text_laid 40

abbrev pub words_laid : List ℕ → Words
words_laid = text_laid 120

-- ---- a row: four words, a word a cell

abbrev pub row_words : Row → List ℕ
row_words r = word_of (Number r.number) ∷ word_of r.cells.typ ∷ word_of r.cells.min ∷ word_of r.cells.max ∷ []

unfoldable pub stored : List Row → List ℕ
stored [] = []
stored (r ∷ rs) = row_words r ++ stored rs

-- ---- "After acceptance, records and rows past those used keep their content"

unfoldable pub over : {A : Type 0} → List A → List A → List A
over table new = new ++ drop (length new) table

-- ---- where nothing is given

abbrev pub no_cells : Triple
no_cells = record { typ = Missing; min = Missing; max = Missing }

abbrev pub no_slopes : RampTriple
no_slopes = record { typ = Absent; min = Absent; max = Absent }
