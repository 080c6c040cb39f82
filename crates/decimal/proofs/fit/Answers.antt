-- `decimal::fit`: `ranged` by cases, at low + 40.
use Rattle.std.specs.Prelude.{Ok}
use Prim.Native.Nat.{ℕ, ◌+◌, ◌-◌}
use native.Mathlib.Omega.{arith}
use mathlib.Core.Path.{◌≡◌, sym, ap, ◌∙◌}
use Rattle.decimal.proofs.Results.{ranged-long, ranged-low, ranged-high, ranged-value}
use Rattle.decimal.proofs.fit.Goals as goal

pub returns-then-number-ge-LIMIT : goal.returns-then-number-ge-LIMIT
returns-then-number-ge-LIMIT c = (sym (ranged-long _ _ _ _ (λ z. omega arith) c.if-number-ge-LIMIT.true))

pub returns-then-high-low : goal.returns-then-high-low
returns-then-high-low c = (sym (ranged-low _ _ _ _ (λ z. omega arith) (omega arith)))

pub returns-then-low-high : goal.returns-then-low-high
returns-then-low-high c = (sym (ranged-high _ _ _ _ (λ z. omega arith) (omega arith)))

pub returns : goal.returns
returns c =
    let a = c.args in
    let p : a.high - a.low ≡ a.high + 40 - (a.low + 40) = omega arith in
    ap (λ (k : ℕ). Ok (record { negative = a.minus; digits = a.number; power = k })) p
    ∙ (sym (ranged-value _ _ _ _ (λ z. omega arith) c.if-number-ge-LIMIT.false (omega arith) (omega arith)))
