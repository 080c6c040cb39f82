-- Laws of hexadecimal digits: a shift leaves a digit lowest, and of 64 bits the sixteenth digit is the highest.
use Prim.Native.Nat.{ℕ, zero, suc, ◌+◌, ◌-◌, ◌*◌, ◌/◌, ◌%◌, ◌^◌, ◌≤◌, ◌<◌}
use mathlib.Core.Path.{◌≡◌, refl, sym, ap, ◌∙◌}
use mathlib.Core.List.{[], ◌∷◌}
use native.Mathlib.Nat.{pow-succ', pow-le-pow_right, div-eq_of_lt, lt_of_lt_of_le, not-suc-le-zero}
use native.Mathlib.Numerals.{sub-one}
use native.Mathlib.Omega.{arith}
use lib.Pow.{pow-add}
use Rattle.text_buffer.specs.Numerals.{hex_digit, hexadecimal}

four-bits : (k : ℕ) → 2 ^ (k * 4) ≡ 16 ^ k
four-bits zero = refl
four-bits (suc k) =
    let e : suc k * 4 ≡ 4 + k * 4 = omega arith in
    ap (λ (j : ℕ). 2 ^ j) e ∙ pow-add 2 4 (k * 4) ∙ ap (λ (x : ℕ). 16 * x) (four-bits k) ∙ sym (pow-succ' 16 k)

pub shifted-digit : (n k : ℕ) → n / 2 ^ (k * 4) % 16 ≡ n / 16 ^ k % 16
shifted-digit n k = ap (λ (p : ℕ). n / p % 16) (four-bits k)

pub past-highest : (n k : ℕ) → n < 16 ^ 16 → 16 ≤ k → n / 16 ^ k % 16 ≡ 0
past-highest n k h g = ap (λ (q : ℕ). q % 16) (div-eq_of_lt (lt_of_lt_of_le h (pow-le-pow_right {n = 16} (omega arith) g)))

-- ---- the turns of the loop

pub digit-then : (k n : ℕ) → 0 < k → hex_digit (n / 16 ^ (k - 1) % 16) ∷ hexadecimal (k - 1) n ≡ hexadecimal k n
unfolding hexadecimal
digit-then zero n h = absurd (not-suc-le-zero h)
digit-then (suc j) n h = rw (sub-one (suc j)) refl

pub no-digits : (k n : ℕ) → k ≤ 0 → [] ≡ hexadecimal k n
unfolding hexadecimal
no-digits zero n h = refl
no-digits (suc j) n h = absurd (not-suc-le-zero h)
