-- What the places that the code answers say of the words.
use Rattle.std.specs.Prelude.{ℕ, suc, ◌+◌, ◌≤◌, ◌<◌, ◌≡◌, List, [], ◌∷◌, length, drop}
use Rattle.laws.specs.Bytes.{is_blank}
use Rattle.laws.specs.Lists.{front, part}
use Rattle.words.specs.Words.{words, is_ink, rest_from}
use Rattle.words.specs.declared.Word.{Word}

-- where the first word from `at` on lies: it starts at the first byte that is no blank and ends at the next blank, each at the latest at the end of s
unfoldable pub run_from : List ℕ → ℕ → Word
run_from s at =
    let start = at + length (front is_blank (drop at s)) in
    record { start = start; end = start + length (front is_ink (drop start s)) }

-- The first word from `at` on lies from start to end, and the others follow end. Where there is none, start is the end of s.
pub record WordAt (s : List ℕ) (at : ℕ) (r : Word) : Type 0 where
  pub here : rest_from 0 (drop at s) ≡ drop r.start s
  pub next : (n : ℕ) → rest_from (suc n) (drop at s) ≡ rest_from n (drop r.end s)
  pub is : r ≡ run_from s at
  pub none : length s ≤ r.start → words (drop at s) ≡ []
  pub some : r.start < length s → words (drop at s) ≡ part r.start r.end s ∷ words (drop r.end s)
  pub rises : r.start < length s → r.start < r.end
  pub from : at ≤ r.start
  pub starts : r.start ≤ r.end
  pub ends : r.end ≤ length s
