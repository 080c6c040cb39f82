-- Numbers: the place of an element in bytes is a usize.
use Prim.Native.Nat.{ℕ, ◌<◌, ◌≤◌, ◌*◌, ◌^◌}
use native.Mathlib.Omega.{arith}
use native.Mathlib.Nat.{mul-le-mul_right, le_of_lt}

pub bytes_fit : (s i n : ℕ) → i < n → n * s < 2 ^ 63 → i * s < 2 ^ 64
bytes_fit s i n l g = let h : i * s ≤ n * s = mul-le-mul_right s (le_of_lt l) in omega (arith, h, g)

pub size_fits : (s i n : ℕ) → i < n → n * s < 2 ^ 63 → s < 2 ^ 64
size_fits s i n l g = let h : 1 * s ≤ n * s = mul-le-mul_right s (omega arith) in omega (arith, h, g)
