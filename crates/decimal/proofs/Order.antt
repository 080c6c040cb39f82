-- The exact order: whole division by a power of ten, and comparison across two powers.
use Prim.Native.Nat.{ℕ, zero, suc, ◌+◌, ◌-◌, ◌*◌, ◌/◌, ◌^◌, ◌≤◌, ◌<◌}
use mathlib.Core.Path.{◌≡◌, sym, ap, ◌∙◌}
use mathlib.Core.Bool.{true, false}
use native.Mathlib.Nat.{not-suc-le-zero, mul-le-mul_right, mul-lt-mul_of_pos_right, le-mul_of_pos_right, mul_assoc, zero-mul, pow-succ', div-one, div-div-eq-div-mul, div-lt_iff_lt-mul, le-div_iff_mul-le}
use native.Mathlib.Numerals.{sub-one}
use native.Mathlib.Omega.{arith}
use lib.Dec.{ltb, leb}
use lib.Pow.{pow-add}
use borrow.Author.Tests.{lt-ltb, le-ltb, le-leb, lt-leb}
use Rattle.laws.proofs.Tests.{by_order, cond_yes, cond_no}
use Rattle.decimal.specs.declared.Decimal.{Decimal}
use Rattle.decimal.specs.Decimal.{size_of, less_than}
use Rattle.decimal.proofs.Capped.{ten-pos}

-- ---- one ten at a time

pub shrink-turn : (n z : ℕ) → 0 < z → n / 10 / 10 ^ (z - 1) ≡ n / 10 ^ z
shrink-turn n zero h = absurd (not-suc-le-zero h)
shrink-turn n (suc z) h =
    ap (λ (k : ℕ). n / 10 / 10 ^ k) (sub-one (suc z))
    ∙ div-div-eq-div-mul n 10 (10 ^ z)
    ∙ ap (λ (k : ℕ). n / k) (sym (pow-succ' 10 z))

pub shrink-end : (n z : ℕ) → z ≤ 0 → n ≡ n / 10 ^ z
shrink-end n zero h = sym (div-one n)
shrink-end n (suc z) h = absurd (not-suc-le-zero h)

-- ---- both sides in units of the lower power

split-mul : (n p q : ℕ) → p ≤ q → n * 10 ^ q ≡ n * 10 ^ (q - p) * 10 ^ p
split-mul n p q h =
    let e : q ≡ q - p + p = omega arith in
    ap (λ (x : ℕ). n * 10 ^ x) e ∙ ap (λ (x : ℕ). n * x) (pow-add 10 (q - p) p) ∙ sym (mul_assoc n (10 ^ (q - p)) (10 ^ p))

pub smaller-left : (m p n q r : ℕ) → p ≤ q → r ≡ m / 10 ^ (q - p) → ltb r n ≡ ltb (m * 10 ^ p) (n * 10 ^ q)
smaller-left m p n q r h e =
    let t = ten-pos (q - p) in
    rw (split-mul n p q h, e)
    (by_order n (m / 10 ^ (q - p))
    (λ k. le-ltb _ _ k ∙ sym (le-ltb _ _ (mul-le-mul_right (10 ^ p) ((le-div_iff_mul-le t).0 k))))
    (λ k. lt-ltb _ _ k ∙ sym (lt-ltb _ _ (mul-lt-mul_of_pos_right ((div-lt_iff_lt-mul t).0 k) (ten-pos p)))))

pub smaller-right : (m p n q r : ℕ) → q ≤ p → 0 < n → r ≡ (n - 1) / 10 ^ (p - q) → leb m r ≡ ltb (m * 10 ^ p) (n * 10 ^ q)
smaller-right m p n q r h s e =
    let t = ten-pos (p - q) in
    rw (split-mul m q p h, e)
    (by_order m ((n - 1) / 10 ^ (p - q))
    (λ k.
    let l : m * 10 ^ (p - q) < n = omega (arith, (le-div_iff_mul-le t).0 k) in
    le-leb _ _ k ∙ sym (lt-ltb _ _ (mul-lt-mul_of_pos_right l (ten-pos q))))
    (λ k.
    let l : n ≤ m * 10 ^ (p - q) = omega (arith, (div-lt_iff_lt-mul t).0 k) in
    lt-leb _ _ k ∙ sym (le-ltb _ _ (mul-le-mul_right (10 ^ q) l))))

-- ---- by signs

module _ (a b : Decimal) where
  pub less_both : a.negative ≡ true → b.negative ≡ true → less_than a b ≡ ltb (size_of b) (size_of a)
  unfolding less_than
  less_both h k = cond_yes _ _ h ∙ cond_yes _ _ k

  pub less-neither : a.negative ≡ false → b.negative ≡ false → less_than a b ≡ ltb (size_of a) (size_of b)
  unfolding less_than
  less-neither h k = cond_no _ _ h ∙ cond_no _ _ k

  pub less-right : a.negative ≡ false → b.negative ≡ true → less_than a b ≡ false
  unfolding less_than
  less-right h k = cond_no _ _ h ∙ cond_yes _ _ k

  less-left : a.negative ≡ true → b.negative ≡ false → less_than a b ≡ ltb 0 (size_of a + size_of b)
  unfolding less_than
  less-left h k = cond_yes _ _ h ∙ cond_no _ _ k

  -- below zero, unless it is zero
  pub less_zero : a.negative ≡ true → b.negative ≡ false → a.digits ≡ 0 → less_than a b ≡ ltb 0 b.digits
  less_zero h k z =
      let s : size_of a ≡ 0 = ap (λ (n : ℕ). n * 10 ^ a.power) z ∙ zero-mul (10 ^ a.power) in
      less-left h k
      ∙ by_order b.digits 0
      (λ l.
      let d : b.digits ≡ 0 = omega arith in
      let t : size_of b ≡ 0 = ap (λ (n : ℕ). n * 10 ^ b.power) d ∙ zero-mul (10 ^ b.power) in
      le-ltb 0 (size_of a + size_of b) (omega arith) ∙ sym (le-ltb 0 b.digits l))
      (λ l. lt-ltb 0 (size_of a + size_of b) (omega (arith, le-mul_of_pos_right b.digits (ten-pos b.power))) ∙ sym (lt-ltb 0 b.digits l))

  pub less-below : a.negative ≡ true → b.negative ≡ false → (a.digits ≡ 0 → ⊥) → less_than a b ≡ true
  less-below h k z =
      let d : 0 < a.digits = by_order a.digits 0 (λ l. absurd (z (omega arith))) (λ l. l) in
      less-left h k ∙ lt-ltb 0 (size_of a + size_of b) (omega (arith, le-mul_of_pos_right a.digits (ten-pos a.power)))
