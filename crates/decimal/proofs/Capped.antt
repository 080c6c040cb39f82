-- Capped numbers: what the code keeps of a long number, and tens.
use Prim.Native.Nat.{ℕ, ◌+◌, ◌*◌, ◌^◌, ◌≤◌, min}
use mathlib.Core.Path.{◌≡◌, sym, ap, ◌∙◌}
use native.Mathlib.Nat.{le_of_lt, le-mul_of_pos_right, mul_assoc, pow-suc, one-le-pow, min-eq_left, min-eq_right}
use native.Mathlib.Numerals.{add-one}
use native.Mathlib.Omega.{arith}
use Rattle.laws.proofs.Tests.{by_order}

pub ten-pos : (z : ℕ) → 1 ≤ 10 ^ z
ten-pos z = one-le-pow z 10 (omega arith)

-- capping first changes nothing
pub capped-mul : (n p c : ℕ) → 1 ≤ p → min (min n c * p) c ≡ min (n * p) c
capped-mul n p c h =
    by_order n c
    (λ k. ap (λ (x : ℕ). min (x * p) c) (min-eq_left k))
    (λ k.
    ap (λ (x : ℕ). min (x * p) c) (min-eq_right (le_of_lt k))
    ∙ omega (arith, le-mul_of_pos_right c h, le-mul_of_pos_right n h))

-- one ten more
pub grow-turn : (n z c g t : ℕ) → g ≡ min (n * 10 ^ z) c → t ≡ min (g * 10 + 0) c → t ≡ min (n * 10 ^ (z + 1)) c
grow-turn n z c g t h e =
    let p : n * 10 ^ (z + 1) ≡ n * 10 ^ z * 10 = ap (λ (k : ℕ). n * 10 ^ k) (add-one z) ∙ ap (λ (k : ℕ). n * k) (pow-suc 10 z) ∙ sym (mul_assoc n (10 ^ z) 10) in
    omega (arith, h, e, p)

-- the tens of a capped number, and then a digit
pub grown : (n m z c g : ℕ) → n ≡ min m c → g ≡ min (n * 10 ^ z) c → g ≡ min (m * 10 ^ z) c
grown n m z c g e q = q ∙ ap (λ (x : ℕ). min (x * 10 ^ z) c) e ∙ capped-mul m (10 ^ z) c (ten-pos z)

pub pushed : (g m d c r : ℕ) → g ≡ min m c → r ≡ min (g * 10 + d) c → r ≡ min (m * 10 + d) c
pushed g m d c r e q = omega arith
