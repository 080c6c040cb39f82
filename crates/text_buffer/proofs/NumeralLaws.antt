-- Laws of `specs/Numerals.antt`: the turns of the loop that finds digits, and what a numeral says as a number.
use Prim.Native.Nat.{ℕ, zero, suc, ◌+◌, ◌-◌, ◌*◌, ◌/◌, ◌^◌, ◌≤◌, ◌<◌}
use mathlib.Core.Path.{◌≡◌, refl, sym, ap, ◌∙◌}
use mathlib.Core.List.{List, [], ◌∷◌}
use mathlib.Core.Bool.{cond}
use native.Mathlib.Omega.{arith}
use native.Mathlib.Numerals.{sub-one}
use native.Mathlib.Nat.{not-suc-le-zero, pow-succ'}
use borrow.Author.Tests.{eq-eqb, ne_eqb}
use lib.Dec.{eqb}
use lib.ListN.{length, take, drop, set, length-set, length-drop}
use lib.Seq.{drop-cons, drop-set-lt, get_or-set_same, drop-drop, take_all}
use Rattle.laws.proofs.Tests.{by_order, cond_yes, cond_no}
use Rattle.laws.proofs.Lists.{part-rest}
use Rattle.decimal.specs.Decimal.{numeral_from, numeral}
use Rattle.text_buffer.specs.Numerals.{digit_of, digits_from, numeral_of, DigitsAre}
use Rattle.text_buffer.specs.declared.numbers.Digits.{Digits}

-- ---- a turn of the loop: the digit goes before those that were found

drop-set : (l : List ℕ) (i x : ℕ) → i < length l → drop i (set l i x) ≡ x ∷ drop (suc i) l
drop-set l i x h =
    let k : i < length (set l i x) = omega (arith, length-set l i x) in
    drop-cons (set l i x) i 0 k
    ∙ ap (λ (y : ℕ). y ∷ drop (suc i) (set l i x)) (get_or-set_same l i x 0 h)
    ∙ ap (λ (t : List ℕ). x ∷ t) (drop-set-lt (suc i) l i x (omega arith))

turn : (k n : ℕ) (l : List ℕ) → 0 < k → k ≤ length l
    → digits_from k n (drop k l)
    ≡ cond (eqb (n / 10) 0) (drop (k - 1) (set l (k - 1) (digit_of n))) (digits_from (k - 1) (n / 10) (drop (k - 1) (set l (k - 1) (digit_of n))))
unfolding digits_from
turn zero n l h g = absurd (not-suc-le-zero h)
turn (suc j) n l h g = rw (sub-one (suc j)) rw (drop-set l j (digit_of n) (omega (arith, g))) refl

pub last-digit : (k n : ℕ) (l : List ℕ) → 0 < k → k ≤ length l → n / 10 ≡ 0 → drop (k - 1) (set l (k - 1) (digit_of n)) ≡ digits_from k n (drop k l)
last-digit k n l h g e = sym (turn k n l h g ∙ cond_yes _ _ (eq-eqb (n / 10) 0 e))

pub next-digit : (k n : ℕ) (l : List ℕ) → 0 < k → k ≤ length l → (n / 10 ≡ 0 → ⊥) → digits_from (k - 1) (n / 10) (drop (k - 1) (set l (k - 1) (digit_of n))) ≡ digits_from k n (drop k l)
next-digit k n l h g e = sym (turn k n l h g ∙ cond_no _ _ (ne_eqb (n / 10) 0 e))

pub no_digit : (k n : ℕ) (l : List ℕ) → k ≤ 0 → drop k l ≡ digits_from k n (drop k l)
unfolding digits_from
no_digit zero n l h = refl
no_digit (suc j) n l h = absurd (not-suc-le-zero h)

-- ---- the parts of the digits that are lent

module _ (n : ℕ) (r : Digits) (d : DigitsAre n r) where
  pub digits-rest : take (length r.bytes - r.first) (drop r.first r.bytes) ≡ numeral_of n
  digits-rest = part-rest r.bytes r.first ∙ d.digits

  pub digits-count : length (numeral_of n) ≡ 20 - r.first
  digits-count = ap length (sym d.digits) ∙ length-drop r.first r.bytes ∙ ap (λ (k : ℕ). k - r.first) d.room

  -- those before the last k, and the last k
  pub digits-before : (k : ℕ) → take (20 - k - r.first) (drop r.first r.bytes) ≡ take (length (numeral_of n) - k) (numeral_of n)
  digits-before k =
      let e : 20 - k - r.first ≡ length (numeral_of n) - k = omega (arith, digits-count) in
      rw d.digits rw e refl

  pub digits-behind : (k : ℕ) → k < 20 - r.first → take (20 - (20 - k)) (drop (20 - k) r.bytes) ≡ drop (length (numeral_of n) - k) (numeral_of n)
  digits-behind k h =
      let e : r.first + (length (numeral_of n) - k) ≡ 20 - k = omega (arith, digits-count, h) in
      let l : length (drop (20 - k) r.bytes) ≤ 20 - (20 - k) = omega (arith, length-drop (20 - k) r.bytes, d.room, h) in
      take_all (20 - (20 - k)) (drop (20 - k) r.bytes) l
      ∙ ap (λ (j : ℕ). drop j r.bytes) (sym e)
      ∙ sym (drop-drop (length (numeral_of n) - k) r.first r.bytes)
      ∙ ap (drop (length (numeral_of n) - k)) d.digits

-- ---- a numeral says its number: what is printed reads back

back : (k n : ℕ) (ds : List ℕ) → n < 10 ^ k → numeral_from 0 (digits_from k n ds) ≡ numeral_from n ds
unfolding digits_from numeral_from
back zero n ds h = let e : n ≡ 0 = omega (arith, h) in rw e refl
back (suc j) n ds h =
    let p : 10 ^ suc j ≡ 10 * 10 ^ j = pow-succ' 10 j in
    let l : n / 10 < 10 ^ j = omega (arith, h, p) in
    let q : n / 10 * 10 + (digit_of n - 48) ≡ n = omega arith in
    by_order (n / 10) 0
    (λ g.
    let z : n / 10 ≡ 0 = omega (arith, g) in
    let m : 0 * 10 + (digit_of n - 48) ≡ n = omega (arith, z) in
    ap (numeral_from 0) (cond_yes (digit_of n ∷ ds) (digits_from j (n / 10) (digit_of n ∷ ds)) (eq-eqb (n / 10) 0 z)) ∙ ap (λ (x : ℕ). numeral_from x ds) m)
    (λ g.
    ap (numeral_from 0) (cond_no (digit_of n ∷ ds) (digits_from j (n / 10) (digit_of n ∷ ds)) (ne_eqb (n / 10) 0 (λ z. omega (arith, g, z))))
    ∙ back j (n / 10) (digit_of n ∷ ds) l
    ∙ ap (λ (x : ℕ). numeral_from x ds) q)

pub numeral-back : (n : ℕ) → n < 10 ^ 20 → numeral (numeral_of n) ≡ n
unfolding numeral numeral_of numeral_from
numeral-back n h = back 20 n [] h
