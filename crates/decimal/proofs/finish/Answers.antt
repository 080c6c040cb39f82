-- `decimal::finish`: zero first; then a size that is out of range by itself, or `fit` at the same power.
use mathlib.Core.Path.{refl, sym, ◌∙◌}
use mathlib.Core.Logic.{inl}
use Rattle.decimal.proofs.Results.{ranged-zero, minus-out, minus-fits, plus-out, plus-fits}
use Rattle.decimal.proofs.finish.Goals as goal

pub returns-then-number-eq0 : goal.returns-then-number-eq0
returns-then-number-eq0 c =
    let z = c.if-number-eq0.true in
    c.settle.ensures 0 0 z (inl refl) ∙ (ranged-zero _ 0 _ _ refl ∙ sym (ranged-zero _ _ _ _ z))

pub returns-then-up-exponent : goal.returns-then-up-exponent
returns-then-up-exponent c = (minus-out _ _ _ _ _ _ c.if-exponent.true c.if-number-eq0.false c.if-up-exponent.true)

pub returns-then-exponent : goal.returns-then-exponent
returns-then-exponent c = c.fit.ensures ∙ (minus-fits _ _ _ _ _ _ c.if-exponent.true c.if-up-exponent.false)

pub returns-then-down-exponent : goal.returns-then-down-exponent
returns-then-down-exponent c = (plus-out _ _ _ _ _ _ c.if-exponent.false c.if-number-eq0.false c.if-down-exponent.true)

pub returns : goal.returns
returns c = c.fit-2.ensures ∙ (plus-fits _ _ _ _ _ _ c.if-exponent.false c.if-down-exponent.false)
