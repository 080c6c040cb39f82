-- Lists one after the other: one more, and more of them are no shorter.
use Prim.Native.Nat.{ℕ, zero, suc, ◌+◌, ◌≤◌}
use mathlib.Core.Path.{◌≡◌, refl}
use mathlib.Core.List.{List, ◌++◌}
use native.Mathlib.Omega.{arith}
use native.Mathlib.Numerals.{add-one}
use lib.ListN.{length, length-append}
use Rattle.laws.proofs.Tests.{by_order}
use Rattle.from_notes.specs.Made.{joined_to}

module _ {A : Type 0} (f : ℕ → List A) where
  pub joined-more : (i : ℕ) → joined_to f (i + 1) ≡ joined_to f i ++ f i
  unfolding joined_to
  joined-more i = rw (add-one i) refl

  pub joined-rise : (i n : ℕ) → i ≤ n → length (joined_to f i) ≤ length (joined_to f n)
  unfolding joined_to
  joined-rise i zero h = let e : i ≡ 0 = omega arith in rw e (omega arith)
  joined-rise i (suc n) h =
      by_order i n
      (λ q. omega (arith, joined-rise i n q, length-append (joined_to f n) (f n)))
      (λ q. let e : i ≡ suc n = omega arith in rw e (omega arith))
