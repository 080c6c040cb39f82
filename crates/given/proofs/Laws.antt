-- Laws of `specs/Given.antt`: what is given is given, and at its own place alone; past the last place nothing is given, and nothing changes.
use Prim.Native.Nat.{ℕ, zero, suc, ◌-◌, ◌+◌, ◌*◌, ◌/◌, ◌%◌, ◌^◌, ◌≤◌, ◌<◌, max}
use mathlib.Core.Path.{◌≡◌, sym, ap, ◌∙◌}
use mathlib.Core.Bool.{true, false, ◌&&◌}
use native.Mathlib.Nat.{div_self, div-eq_of_lt, zero-div, pow-succ', div-div-eq-div-mul}
use native.Mathlib.Omega.{arith}
use lib.Bits.{bit_or, or_step, or_shr, or_zero_r}
use lib.Dec.{eqb, ltb}
use lib.Pow.{pow_pos, pow-lt, pow-add, shl-shr}
use borrow.Author.Tests.{lt-ltb, le-ltb, eq-eqb, ne_eqb, eqb-true, eqb-false}
use Rattle.laws.proofs.Tests.{by-test, by_order, and_right}
use Rattle.given.specs.Given.{none_given, has, with}
use Rattle.given.specs.declared.Given.{Given}

pub has-below : (x : Given) (k : ℕ) → k < 64 → has x k ≡ eqb (x.bits / 2 ^ k % 2) 1
unfolding has
has-below x k h = rw (lt-ltb k 64 h)

pub has-past : (x : Given) (k : ℕ) → 64 ≤ k → has x k ≡ false
unfolding has
has-past x k h = rw (le-ltb k 64 h)

pub has-none : (k : ℕ) → has none_given k ≡ false
unfolding has
has-none k = and_right (ltb k 64) (eqb (0 / 2 ^ k % 2) 1) (ne_eqb (0 / 2 ^ k % 2) 1 (omega (arith, zero-div (2 ^ k))))

-- a bit that is set stays, and one that is not is added: by the lowest bit, and by a half for the others
or-power : (k n : ℕ) → (n / 2 ^ k % 2 ≡ 1 → bit_or n (2 ^ k) ≡ n) × (n / 2 ^ k % 2 ≡ 0 → bit_or n (2 ^ k) ≡ n + 2 ^ k)
or-power zero n = (λ h. omega (arith, or_step n 1, or_zero_r (n / 2), h), λ h. omega (arith, or_step n 1, or_zero_r (n / 2), h))
or-power (suc k) n =
    let e : n / 2 ^ suc k ≡ n / 2 / 2 ^ k = ap (λ (m : ℕ). n / m) (pow-succ' 2 k) ∙ sym (div-div-eq-div-mul n 2 (2 ^ k)) in
    let d : 2 ^ suc k / 2 ≡ 2 ^ k = omega arith in
    let m : max (n % 2) (2 ^ suc k % 2) ≡ n % 2 = omega arith in
    let s : bit_or n (2 ^ suc k) ≡ bit_or (n / 2) (2 ^ k) * 2 + n % 2 = or_step n (2 ^ suc k) ∙ ap (λ (p : ℕ). bit_or (n / 2) p * 2 + max (n % 2) (2 ^ suc k % 2)) d ∙ ap (λ (q : ℕ). bit_or (n / 2) (2 ^ k) * 2 + q) m in (
      λ h. s ∙ omega (arith, (or-power k (n / 2)).0 (sym (ap (λ (m : ℕ). m % 2) e) ∙ h)),
      λ h. s ∙ omega (arith, (or-power k (n / 2)).1 (sym (ap (λ (m : ℕ). m % 2) e) ∙ h)),
    )

pub with-below : (x : Given) (k : ℕ) → k < 64 → with x k ≡ record { bits = bit_or x.bits (2 ^ k) }
unfolding with
with-below x k h =
    by-test (eqb (x.bits / 2 ^ k % 2) 1)
    (λ t. rw (lt-ltb k 64 h, has-below x k h, t, (or-power k x.bits).0 (eqb-true (x.bits / 2 ^ k % 2) 1 t)))
    (λ t.
    let low : x.bits / 2 ^ k % 2 ≡ 0 = omega (arith, eqb-false (x.bits / 2 ^ k % 2) 1 t) in
    rw (lt-ltb k 64 h, has-below x k h, t, (or-power k x.bits).1 low))

pub with-past : (x : Given) (k : ℕ) → 64 ≤ k → with x k ≡ x
unfolding with
with-past x k h = rw (le-ltb k 64 h)

-- a bit of `bit_or a b` is the greater of the two numbers' own: the lowest by a step of its recursion, another by a shift
lowest-bit : (a b : ℕ) → bit_or a b % 2 ≡ max (a % 2) (b % 2)
lowest-bit a b = omega (arith, or_step a b)

bit-or : (a b k : ℕ) → bit_or a b / 2 ^ k % 2 ≡ max (a / 2 ^ k % 2) (b / 2 ^ k % 2)
bit-or a b k = ap (λ (n : ℕ). n % 2) (or_shr a b k) ∙ lowest-bit (a / 2 ^ k) (b / 2 ^ k)

-- a power of two has the one bit
own-bit : (k : ℕ) → 2 ^ k / 2 ^ k % 2 ≡ 1
own-bit k = ap (λ (n : ℕ). n % 2) (div_self (pow_pos k))

lower-bit : (j d : ℕ) → 2 ^ (suc d + j) / 2 ^ j % 2 ≡ 0
lower-bit j d =
    let even : 2 ^ suc d % 2 ≡ 0 = omega arith in
    ap (λ (n : ℕ). n / 2 ^ j % 2) (pow-add 2 (suc d) j) ∙ ap (λ (n : ℕ). n % 2) (shl-shr (2 ^ suc d) j) ∙ even

other-bit : (j k : ℕ) → (j ≡ k → ⊥) → 2 ^ k / 2 ^ j % 2 ≡ 0
other-bit j k apart =
    by_order k j
    (λ h.
    let below : k < j = omega arith in
    ap (λ (n : ℕ). n % 2) (div-eq_of_lt (pow-lt below)))
    (λ h.
    let e : suc (k - suc j) + j ≡ k = omega arith in
    ap (λ (n : ℕ). 2 ^ n / 2 ^ j % 2) (sym e) ∙ lower-bit j (k - suc j))

-- what is given is given
pub has-with : (x : Given) (k : ℕ) → k < 64 → has (with x k) k ≡ true
has-with x k h =
    let own : max (x.bits / 2 ^ k % 2) (2 ^ k / 2 ^ k % 2) ≡ 1 = omega (arith, own-bit k) in
    ap (λ (y : Given). has y k) (with-below x k h) ∙ has-below (record { bits = bit_or x.bits (2 ^ k) }) k h
    ∙ eq-eqb (bit_or x.bits (2 ^ k) / 2 ^ k % 2) 1 (bit-or x.bits (2 ^ k) k ∙ own)

-- and another place stays as it was
with-other : (x : Given) (j k : ℕ) → (j ≡ k → ⊥) → has (record { bits = bit_or x.bits (2 ^ k) }) j ≡ has x j
unfolding has
with-other x j k apart =
    let kept : max (x.bits / 2 ^ j % 2) (2 ^ k / 2 ^ j % 2) ≡ x.bits / 2 ^ j % 2 = omega (arith, other-bit j k apart) in
    ap (λ (n : ℕ). ltb j 64 && eqb n 1) (bit-or x.bits (2 ^ k) j ∙ kept)

pub has_other : (x : Given) (j k : ℕ) → (j ≡ k → ⊥) → has (with x k) j ≡ has x j
has_other x j k apart =
    by_order 64 k
    (λ h. ap (λ (y : Given). has y j) (with-past x k h))
    (λ h. ap (λ (y : Given). has y j) (with-below x k h) ∙ with-other x j k apart)
