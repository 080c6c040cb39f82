-- What the places that the code answers say of a line.
use Rattle.std.specs.Prelude.{ℕ, ◌+◌, ◌-◌, ◌≤◌, ◌≡◌, List, length, drop}
use Rattle.laws.specs.Lists.{part}
use Rattle.words.specs.Words.{word, words}
use Rattle.words.specs.Places.{run_from}
use Rattle.words.specs.declared.Word.{Word}
use Rattle.keywords.specs.Form.{argument}

-- the same part further on
abbrev pub further_by : ℕ → Word → Word
further_by a w = record { start = a + w.start; end = a + w.end }

-- the first word of the part from a to e, and where the others lie
pub record FirstIn (s : List ℕ) (a e : ℕ) (r : Word) : Type 0 where
  pub is : r ≡ further_by a (run_from (part a e s) 0)
  pub text : part r.start r.end s ≡ word 0 (words (part a e s))
  pub others : words (part r.end e s) ≡ drop 1 (words (part a e s))
  pub from : a ≤ r.start
  pub starts : r.start ≤ r.end
  pub ends : r.end ≤ e

-- the argument of the line from a to e begins at r
pub record ArgumentIn (s : List ℕ) (a e r : ℕ) : Type 0 where
  pub is : r ≡ e - length (argument (part a e s))
  pub text : part r e s ≡ argument (part a e s)
  pub from : a ≤ r
  pub ends : r ≤ e
