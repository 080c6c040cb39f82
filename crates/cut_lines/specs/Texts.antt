-- The texts of a file: what its lines leave after cutting, each with its number. A line left empty is skipped everywhere.
use Rattle.std.specs.Prelude.{ℕ, ◌+◌, List, [], ◌∷◌, cond}
use Rattle.laws.specs.Said.{or_else}
use Rattle.records.specs.Flaws.{flaw_in, told}
use Rattle.records.specs.declared.LineFault.{LineFault}
use Rattle.lines.specs.Lines.{Physical, cut}
use Rattle.cut_lines.specs.Change.{is_change, change_of}

pub data Text : Type 0 where
  -- the number of a line, and what is left of it: at least one byte
  plain : ℕ → List ℕ → Text
  -- the number of a [Comment Char] line, and its fault: 5, 10, or none
  change : ℕ → LineFault → Text

-- a line left empty is skipped
unfoldable pub onto_texts : ℕ → List ℕ → List Text → List Text
onto_texts k [] ts = ts
onto_texts k (b ∷ bs) ts = plain k (b ∷ bs) ∷ ts

-- c is the comment character in force, k the number of the first line; a new character holds from its line on. On a [Comment Char] line nothing is cut first
unfoldable pub texts_from : ℕ → ℕ → List Physical → List Text
texts_from c k [] = []
texts_from c k (l ∷ ls) =
    cond (is_change l.bytes)
    (change k (told l.bytes (flaw_in (change_of l.bytes))) ∷ texts_from (or_else c (change_of l.bytes)) (k + 1) ls)
    (onto_texts k (cut c l.bytes) (texts_from c (k + 1) ls))
