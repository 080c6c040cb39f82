-- What `filled_to` says of the length and of each place, by induction on how many places are filled.
use mathlib.Core.Path.{◌≡◌, refl, ◌∙◌}
use Prim.Native.Nat.{ℕ, zero, suc, ◌<◌, ◌≤◌}
use native.Mathlib.Omega.{arith}
use native.Mathlib.Nat.{eq-or-lt_of_le, not-suc-le-zero, le_of_suc-le-suc}
use mathlib.Core.Logic.{⊎_elim}
use mathlib.Core.List.{List}
use lib.ListN.{length, get_or, length-set}
use lib.Seq.{get_or-set_same, get_or-set_other}
use Rattle.table_walks.specs.Filled.{filled_to}

module _ {A : Type 0} (f : ℕ → A) where
  pub length-filled : (n : ℕ) (xs : List A) → length (filled_to f n xs) ≡ length xs
  length-filled zero xs = refl
  length-filled (suc n) xs = length-set (filled_to f n xs) n _ ∙ length-filled n xs

  -- from n on what stood there
  pub filled-past : (n : ℕ) (xs : List A) (k : ℕ) (d : A) → n ≤ k → get_or (filled_to f n xs) k d ≡ get_or xs k d
  filled-past zero xs k d h = refl
  filled-past (suc n) xs k d h = get_or-set_other (filled_to f n xs) n k _ d (λ e. omega (arith, h, e)) ∙ filled-past n xs k d (omega (arith, h))

  -- below n what f says
  pub filled-below : (n : ℕ) (xs : List A) (k : ℕ) (d : A) → n ≤ length xs → k < n → get_or (filled_to f n xs) k d ≡ f k
  filled-below zero xs k d fit h = absurd (not-suc-le-zero h)
  filled-below (suc n) xs k d fit h =
      ⊎_elim
      (λ same. rw same (get_or-set_same (filled_to f n xs) n (f n) d (rw (length-filled n xs) fit)))
      (λ less. get_or-set_other (filled_to f n xs) n k (f n) d (λ e. omega (arith, less, e)) ∙ filled-below n xs k d (omega (arith, fit)) less)
      (eq-or-lt_of_le (le_of_suc-le-suc h))
