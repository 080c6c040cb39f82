-- Below the width the shifted one is the power of two, since nothing is shifted out; from there on by the law.
use Prim.Native.Nat.{ℕ, ◌*◌, ◌%◌, ◌^◌, ◌<◌}
use mathlib.Core.Path.{◌≡◌, sym, ◌∙◌}
use native.Mathlib.Nat.{one-mul}
use native.Mathlib.Omega.{arith}
use lib.Pow.{shl_exact}
use Rattle.given.proofs.Laws.{with-below, with-past}
use Rattle.given.proofs.Given.also.Goals as goal

shifted : (k : ℕ) → k < 64 → (1 * 2 ^ k) % 2 ^ 64 ≡ 2 ^ k
shifted k h = shl_exact 1 k 64 (omega arith) (omega arith) ∙ one-mul (2 ^ k)

pub returns-then-k-ge64 : goal.returns-then-k-ge64
returns-then-k-ge64 c = sym (with-past c.args.self c.args.k (omega arith))

pub returns : goal.returns
returns c =
    let below : c.args.k < 64 = omega arith in
    rw (shifted c.args.k below) (sym (with-below c.args.self c.args.k below))
