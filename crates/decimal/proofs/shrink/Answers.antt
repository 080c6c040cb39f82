-- `decimal::shrink`: dividing by ten and then by what is left is dividing by the whole power.
use Prim.Native.Nat.{ℕ, ◌+◌, ◌-◌, ◌/◌, ◌^◌}
use mathlib.Core.Path.{◌≡◌, ap, ◌∙◌}
use native.Mathlib.Omega.{arith}
use Rattle.decimal.proofs.Order.{shrink-turn, shrink-end}
use Rattle.decimal.proofs.shrink.Goals as goal

pub loop-init : goal.loop-init
loop-init c =
    let all : c.args.count - 0 ≡ c.args.count = omega arith in
    ap (λ (k : ℕ). c.args.number / 10 ^ k) all

pub loop-preserved : goal.loop-preserved
loop-preserved c =
    let left : c.args.count - (c.loop.counter + 1) ≡ c.args.count - c.loop.counter - 1 = omega arith in
    ap (λ (k : ℕ). c.loop.rest / 10 / 10 ^ k) left ∙ shrink-turn c.loop.rest (c.args.count - c.loop.counter) (omega (arith, c.loop-test.true)) ∙ c.loop.invariant

pub returns : goal.returns
returns c = shrink-end c.loop.rest (c.args.count - c.loop.counter) (omega (arith, c.loop-test.false)) ∙ c.loop.invariant
