-- Numbers that a `match` told apart from the first ones: by recursion on how many.
use Prim.Native.Nat.{ℕ, zero, suc, ◌≤◌}
use mathlib.Core.Path.{◌≡◌}
use native.Mathlib.Omega.{arith}

-- k is none of the numbers below n, as the last arm of a `match` knows it
abbrev pub Apart : ℕ → ℕ → Type 0
Apart zero k = Unit {0}
Apart (suc n) k = Apart n k × (k ≡ n → ⊥)

pub apart-le : (n k : ℕ) → Apart n k → n ≤ k
apart-le zero k h = omega arith
apart-le (suc n) k h =
    let l = apart-le n k h.0 in
    let q : k ≡ n → ⊥ = h.1 in
    omega arith
