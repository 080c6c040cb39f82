-- Every number that is read has at most 15 digits, a power from −40 to 24 and no trailing zero; so its cell comes back from its word.
use Rattle.std.specs.Prelude.{Ok, Err}
use Prim.Native.Nat.{ℕ, ◌+◌, ◌-◌, ◌*◌, ◌%◌, ◌^◌}
use Prim.Native.Char.{code}
use mathlib.Core.Path.{◌≡◌, refl, ap}
use mathlib.Core.List.{List, [], ◌∷◌}
use mathlib.Core.Bool.{Bool, true, false, ◌||◌}
use mathlib.Core.Logic.{◌⊎◌, inl, inr, ⊎_elim}
use native.Mathlib.Omega.{arith}
use lib.Dec.{leb, ltb, eqb}
use lib.ListN.{length}
use borrow.Author.Tests.{leb-true, leb-false, ltb-false, eqb-false}
use Rattle.laws.specs.Bytes.{is_digit, is_letter}
use Rattle.laws.specs.Lists.{front, after, all, trim, keep}
use Rattle.laws.specs.Said.{Said, read_on}
use Rattle.laws.proofs.Tests.{cond-all, and_first, and_second, or_left, or_right}
use Rattle.laws.proofs.Fronts.{front-all, all_append}
use Rattle.decimal.specs.declared.Cell.TheVariants.{Number, Missing}
use Rattle.decimal.specs.declared.Decimal.{Decimal}
use Rattle.decimal.specs.Decimal.{ranged, result_of, unsigned, number_of, is_missing, given_cell, cell_of, is_minus, after_sign, point_places, figures, after_figures, letters, significant, numeral, numeral_from}
use Rattle.decimal.specs.Parts.{is_zero}
use Rattle.decimal.specs.Fine.{FineNumber, FineRead, ReducedNumber, ReducedRead}

-- ---- the bounds

ranged-fine : (minus : Bool) (n up down : ℕ) → FineNumber (ranged minus n up down)
unfolding ranged
ranged-fine minus n up down =
    cond-all FineNumber (eqb n 0) _ _
    (λ h. record { digits = omega arith; power = omega arith })
    (λ h. cond-all FineNumber (leb (10 ^ 15) n || ltb (up + 40) down || ltb (down + 24) up) (Err 12) _
    (λ k. (omega arith, omega arith))
    (λ k.
    let long = or_left (leb (10 ^ 15) n) (ltb (up + 40) down) (or_left _ (ltb (down + 24) up) k) in
    let high = ltb-false (down + 24) up (or_right (leb (10 ^ 15) n || ltb (up + 40) down) _ k) in
    record { digits = leb-false (10 ^ 15) n long; power = omega arith }))

unsigned-fine : (minus : Bool) (s : List ℕ) → FineNumber (unsigned minus s)
unfolding unsigned result_of
unsigned-fine minus s =
    cond-all FineNumber (eqb (length (figures s)) 0) (Err 11) _ (λ h. (omega arith, omega arith))
    (λ h. cond-all FineNumber (all is_letter (letters (after_figures s))) _ (Err 11) (λ k. ranged-fine minus _ _ _) (λ k. (omega arith, omega arith)))

pub number-fine : (w : List ℕ) → FineNumber (number_of w)
unfolding number_of
number-fine w = unsigned-fine (is_minus w) (after_sign w)

fine-cell : (r : Said Decimal) → FineNumber r → FineRead (read_on r (λ d. Ok (Number d)))
fine-cell (Ok d) h = h
fine-cell (Err n) h = h

pub given-fine : (w : List ℕ) → FineRead (given_cell w)
unfolding given_cell
given-fine w = fine-cell (number_of w) (number-fine w)

pub cell-fine : (w : List ℕ) → FineRead (cell_of w)
unfolding cell_of
cell-fine w = cond-all FineRead (is_missing w) (Ok Missing) _ (λ h. tt) (λ h. given-fine w)

-- ---- no trailing zero

-- digits without zeros at their end are none, or say a number that ten does not divide, whatever stands before them
abbrev Ends : List ℕ → Type 0
Ends m = (m ≡ []) ⊎ ((n : ℕ) → numeral_from n m % 10 ≡ 0 → ⊥)

last-digit : (n b : ℕ) → is_digit b ≡ true → is_zero b ≡ false → (n * 10 + (b - 48)) % 10 ≡ 0 → ⊥
unfolding is_digit
last-digit n b h z e =
    let low = leb-true 48 b (and_first (leb 48 b) (leb b 57) h) in
    let high = leb-true b 57 (and_second (leb 48 b) (leb b 57) h) in
    omega (arith, eqb-false b 48 z)

keep-ends : (b : ℕ) (m : List ℕ) → is_digit b ≡ true → Ends m → Ends (keep is_zero b m)
unfolding keep numeral_from
keep-ends b [] h e = cond-all Ends (is_zero b) [] (b ∷ []) (λ z. inl refl) (λ z. inr (λ n q. last-digit n b h z q))
keep-ends b (x ∷ xs) h e =
    ⊎_elim
    (λ z. let q : ◌≡◌ {A = ℕ} 0 1 = cc in absurd (omega arith))
    (λ f. inr (λ n q. f (n * 10 + (b - 48)) q))
    e

trim-ends : (ds : List ℕ) → all is_digit ds ≡ true → Ends (trim is_zero ds)
unfolding trim all
trim-ends [] h = inl refl
trim-ends (b ∷ bs) h =
    keep-ends b (trim is_zero bs) (and_first (is_digit b) (all is_digit bs) h) (trim-ends bs (and_second (is_digit b) (all is_digit bs) h))

pub significant-ends : (ds : List ℕ) → all is_digit ds ≡ true → (numeral (significant ds) ≡ 0) ⊎ (numeral (significant ds) % 10 ≡ 0 → ⊥)
unfolding numeral numeral_from significant
significant-ends ds h = ⊎_elim (λ e. inl (ap (numeral_from 0) e)) (λ f. inr (f 0)) (trim-ends ds h)

places-all : (s : List ℕ) → all is_digit (point_places s) ≡ true
unfolding point_places all
places-all [] = refl
places-all (b ∷ bs) =
    cond-all (λ l. all is_digit l ≡ true) (eqb b (code ".")) (front is_digit bs) [] (λ h. front-all is_digit bs) (λ h. refl)

pub figures-all : (s : List ℕ) → all is_digit (figures s) ≡ true
unfolding figures
figures-all s = all_append is_digit (front is_digit s) (point_places (after is_digit s)) (front-all is_digit s) (places-all (after is_digit s))

ranged-reduced : (minus : Bool) (n up down : ℕ) → (n ≡ 0) ⊎ (n % 10 ≡ 0 → ⊥) → ReducedNumber (ranged minus n up down)
unfolding ranged
ranged-reduced minus n up down e =
    cond-all ReducedNumber (eqb n 0) _ _
    (λ h. inl refl)
    (λ h. cond-all ReducedNumber (leb (10 ^ 15) n || ltb (up + 40) down || ltb (down + 24) up) (Err 12) _
    (λ k. tt)
    (λ k. ⊎_elim (λ z. absurd (eqb-false n 0 h z)) (λ f. inr f) e))

unsigned-reduced : (minus : Bool) (s : List ℕ) → ReducedNumber (unsigned minus s)
unfolding unsigned result_of
unsigned-reduced minus s =
    cond-all ReducedNumber (eqb (length (figures s)) 0) (Err 11) _ (λ h. tt)
    (λ h. cond-all ReducedNumber (all is_letter (letters (after_figures s))) _ (Err 11)
    (λ k. ranged-reduced minus _ _ _ (significant-ends (figures s) (figures-all s)))
    (λ k. tt))

pub number-reduced : (w : List ℕ) → ReducedNumber (number_of w)
unfolding number_of
number-reduced w = unsigned-reduced (is_minus w) (after_sign w)

given-reduced : (r : Said Decimal) → ReducedNumber r → ReducedRead (read_on r (λ d. Ok (Number d)))
given-reduced (Ok d) h = h
given-reduced (Err n) h = tt

pub cell-reduced : (w : List ℕ) → ReducedRead (cell_of w)
unfolding cell_of given_cell
cell-reduced w = cond-all ReducedRead (is_missing w) (Ok Missing) _ (λ h. tt) (λ h. given-reduced (number_of w) (number-reduced w))
