-- Digits as a number: what zeros at their end do to it, and one digit more.
use Prim.Native.Nat.{ℕ, suc, ◌+◌, ◌-◌, ◌*◌, ◌^◌, min}
use Prim.Native.Char.{code}
use mathlib.Core.Path.{◌≡◌, refl, sym, ap, ◌∙◌}
use mathlib.Core.List.{List, [], ◌∷◌, ◌++◌}
use mathlib.Core.Bool.{true, false}
use native.Mathlib.Nat.{mul-one, mul_assoc, pow-succ'}
use native.Mathlib.Omega.{arith}
use lib.ListN.{length, length-append}
use borrow.Author.Tests.{eq-eqb, ne_eqb, eqb-true}
use Rattle.laws.specs.Lists.{trim, keep}
use Rattle.laws.proofs.Tests.{by-test}
use Rattle.laws.proofs.Trims.{trim-cut, trim-kept, trim-le}
use Rattle.decimal.specs.Decimal.{numeral, numeral_from, significant, zeros_cut}
use Rattle.decimal.specs.Parts.{cap, StandsFor, is_zero}
use Rattle.decimal.proofs.Capped.{grown, pushed}

pub numeral-append : (n : ℕ) (xs ys : List ℕ) → numeral_from n (xs ++ ys) ≡ numeral_from (numeral_from n xs) ys
unfolding numeral_from
numeral-append n [] ys = refl
numeral-append n (d ∷ xs) ys = numeral-append (n * 10 + (d - code "0")) xs ys

-- ---- "no trailing zero"

zero_is : (b : ℕ) → is_zero b ≡ true → b ≡ code "0"
zero_is b h = eqb-true b 48 h

pub zero-yes : (b : ℕ) → b ≡ code "0" → is_zero b ≡ true
zero-yes b h = eq-eqb b 48 h

pub zero-no : (b : ℕ) → (b ≡ code "0" → ⊥) → is_zero b ≡ false
zero-no b h = ne_eqb b 48 h

ten-more : (n k z : ℕ) → n * 10 + k ≡ n * 10 → (n * 10 + k) * 10 ^ z ≡ n * 10 ^ suc z
ten-more n k z h =
    ap (λ (x : ℕ). x * 10 ^ z) h ∙ mul_assoc n 10 (10 ^ z) ∙ ap (λ (x : ℕ). n * x) (sym (pow-succ' 10 z))

keep-numeral : (n b : ℕ) (l m : List ℕ)
    → numeral_from (n * 10 + (b - 48)) l ≡ numeral_from (n * 10 + (b - 48)) m * 10 ^ (length l - length m)
    → numeral_from n (b ∷ l) ≡ numeral_from n (keep is_zero b m) * 10 ^ (suc (length l) - length (keep is_zero b m))
unfolding numeral_from keep
keep-numeral n b l [] h =
    let e : length l - 0 ≡ length l = omega arith in
    by-test (is_zero b)
    (λ t.
    let z : n * 10 + (b - 48) ≡ n * 10 = omega (arith, zero_is b t) in
    let s : suc (length l) - 0 ≡ suc (length l) = omega arith in
    rw t
    (h ∙ rw (e, s) (ten-more n (b - 48) (length l) z)))
    (λ t.
    let s : suc (length l) - 1 ≡ length l = omega arith in
    rw t
    (h ∙ rw (e, s)))
keep-numeral n b l (x ∷ xs) h =
    let s : suc (length l) - suc (suc (length xs)) ≡ length l - suc (length xs) = omega arith in
    h ∙ rw s

trim-numeral : (n : ℕ) (ds : List ℕ) → numeral_from n ds ≡ numeral_from n (trim is_zero ds) * 10 ^ (length ds - length (trim is_zero ds))
unfolding trim numeral_from
trim-numeral n [] = sym (mul-one n)
trim-numeral n (b ∷ bs) = keep-numeral n b bs (trim is_zero bs) (trim-numeral (n * 10 + (b - 48)) bs)

-- the zeros cut are tens
pub significant-numeral : (ds : List ℕ) → numeral ds ≡ numeral (significant ds) * 10 ^ zeros_cut ds
unfolding numeral significant zeros_cut
significant-numeral ds = trim-numeral 0 ds

-- ---- what n and zeros stand for

pub stands-none : StandsFor 0 0 []
unfolding numeral numeral_from significant zeros_cut trim
stands-none = record { number = refl; cut = refl }

-- a zero more waits
pub stands-zero : (n z b : ℕ) (ds : List ℕ) → b ≡ code "0" → StandsFor n z ds → StandsFor n (z + 1) (ds ++ (b ∷ []))
unfolding significant zeros_cut
stands-zero n z b ds h s =
    let t = trim-cut is_zero b ds (zero-yes b h) in
    record {
      number = s.number ∙ ap (λ (l : List ℕ). min (numeral l) cap) (sym t);
      cut = omega (arith, s.cut, ap length t, length-append ds (b ∷ []), trim-le is_zero ds);
    }

-- the waiting zeros taken in
pub stands-grown : (n z g : ℕ) (ds : List ℕ) → StandsFor n z ds → g ≡ min (n * 10 ^ z) cap → g ≡ min (numeral ds) cap
stands-grown n z g ds s e =
    grown n (numeral (significant ds)) z cap g s.number e
    ∙ ap (λ (k : ℕ). min (numeral (significant ds) * 10 ^ k) cap) s.cut
    ∙ ap (λ (k : ℕ). min k cap) (sym (significant-numeral ds))

-- another digit takes the waiting zeros in
pub stands-digit : (n z b g r : ℕ) (ds : List ℕ) → (b ≡ code "0" → ⊥) → StandsFor n z ds
    → g ≡ min (n * 10 ^ z) cap → r ≡ min (g * 10 + (b - code "0")) cap → StandsFor r 0 (ds ++ (b ∷ []))
unfolding significant zeros_cut numeral numeral_from
stands-digit n z b g r ds h s e q =
    let t = trim-kept is_zero b ds (zero-no b h) in
    let v = stands-grown n z g ds s e in
    record {
      number = pushed g (numeral ds) (b - 48) cap r v q ∙ ap (λ (k : ℕ). min k cap) (sym (ap (numeral_from 0) t ∙ numeral-append 0 ds (b ∷ [])));
      cut = omega (arith, ap length t);
    }
