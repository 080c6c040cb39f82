-- Texts that stand one after another in one table of bytes. A separator ends each; behind the last one it may be missing.
use Rattle.std.specs.Prelude.{ℕ, zero, suc, ◌+◌, ◌≤◌, ◌<◌, min, ◌≡◌, List, [], ◌∷◌, cond, length, drop, get_or}
use Rattle.laws.specs.Lists.{front, other, part}
use Rattle.words.specs.Words.{onto_word}
use Rattle.words.specs.declared.Word.{Word}

unfoldable pub parts : ℕ → List ℕ → List (List ℕ)
parts separator [] = []
parts separator (b ∷ bs) = cond (other separator b) (onto_word b (parts separator bs)) ([] ∷ parts separator bs)

-- where the text begins that has n before it, from a start on; past the table where there are not so many
unfoldable pub start_from : ℕ → List ℕ → ℕ → ℕ → ℕ
start_from separator table start zero = start
start_from separator table start (suc n) = start_from separator table (start + length (front (other separator) (drop start table)) + 1) n

-- where the text at a place of a table lies: up to the next separator; past the last text, at the table's end
unfoldable pub lying_at : List ℕ → ℕ → ℕ → Word
lying_at table separator place =
    let start = min (start_from separator table 0 place) (length table) in
    record { start = start; end = start + length (front (other separator) (drop start table)) }

-- the text at a place of a table, from 0, lies from start to end. Past the last one it is empty, and start is the table's end
pub record PartAt (table : List ℕ) (separator place : ℕ) (r : Word) : Type 0 where
  pub is : r ≡ lying_at table separator place
  pub text : part r.start r.end table ≡ get_or (parts separator table) place []
  pub there : r.start < length table → place < length (parts separator table)
  pub past : length table ≤ r.start → length (parts separator table) ≤ place
  pub starts : r.start ≤ r.end
  pub ends : r.end ≤ length table
