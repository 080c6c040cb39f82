-- The powers of ten in the code's table: one computed test says that every entry is one exactly, and a law what that says of each.
use Prim.Native.Nat.{ℕ, zero, suc, ◌+◌, ◌*◌, ◌^◌, ◌<◌}
use mathlib.Core.Path.{refl, sym, ◌∙◌, subst}
use mathlib.Core.Bool.{Bool, true, false, ◌&&◌}
use mathlib.Core.List.{List, [], ◌∷◌}
use native.Mathlib.Nat.{add-zero, add-suc, suc-add, zero-add, le_of_suc-le-suc, not-suc-le-zero}
use lib.Dec.{T, eqb, eqb→eq}
use lib.ListN.{length, get_or}
use lib.IntN.{pos}
use lib.Ieee.{Float, nan, inf, fin, binary64, of_int, up, down}
use lib.Ieee.Fits.{and_l, and_r}
use lib.Ieee.Exact.{HasValue}

-- x is the whole number n
is_whole : ℕ → Float → Bool
is_whole n nan = false
is_whole n (inf s) = false
is_whole n (fin true m e) = false
is_whole n (fin false m e) = eqb (m * up e * 1) (n * down e)

whole-value : (n : ℕ) (x : Float) → T (is_whole n x) → HasValue x false n 1
unfolding is_whole
whole-value n nan t = absurd t
whole-value n (inf s) t = absurd t
whole-value n (fin true m e) t = absurd t
whole-value n (fin false m e) t = (refl, eqb→eq (m * up e * 1) (n * down e) t)

-- the entries are the powers of ten from ten to the i on
unfoldable are_tens_from : ℕ → List Float → Bool
unfolding is_whole
are_tens_from i [] = true
are_tens_from i (x ∷ xs) = is_whole (10 ^ i) x && are_tens_from (suc i) xs

ten-from : (xs : List Float) (i k : ℕ) → T (are_tens_from i xs) → k < length xs → HasValue (get_or xs k nan) false (10 ^ (i + k)) 1
unfolding are_tens_from
ten-from [] i k t h = absurd (not-suc-le-zero h)
ten-from (x ∷ xs) i zero t h =
    subst (λ (j : ℕ). HasValue x false (10 ^ j) 1) (sym (add-zero i)) (whole-value (10 ^ i) x (and_l (is_whole (10 ^ i) x) (are_tens_from (suc i) xs) t))
ten-from (x ∷ xs) i (suc k) t h =
    subst (λ (j : ℕ). HasValue (get_or xs k nan) false (10 ^ j) 1) (suc-add i k ∙ sym (add-suc i k))
    (ten-from xs (suc i) k (and_r (is_whole (10 ^ i) x) (are_tens_from (suc i) xs) t) (le_of_suc-le-suc h))

ten-at : (xs : List Float) (k : ℕ) → T (are_tens_from 0 xs) → k < length xs → HasValue (get_or xs k nan) false (10 ^ k) 1
ten-at xs k t h = subst (λ (j : ℕ). HasValue (get_or xs k nan) false (10 ^ j) 1) (zero-add k) (ten-from xs 0 k t h)

-- ---- n doubles from ten to the i on: the code's table computes to them

unfoldable pub tens_from : ℕ → ℕ → List Float
unfolding of_int
tens_from i zero = []
tens_from i (suc n) = of_int binary64 (pos (10 ^ i)) ∷ tens_from (suc i) n

abbrev pub table : List Float
unfolding tens_from
table = tens_from 0 23

pub table-exact : (k : ℕ) → k < 23 → HasValue (get_or table k nan) false (10 ^ k) 1
unfolding tens_from are_tens_from
table-exact k h = ten-at (tens_from 0 23) k tt h
