-- `decimal::above_zero`: the two branches of `above_zero`.
use mathlib.Core.Path.{sym}
use Rattle.laws.proofs.Tests.{cond_yes, cond_no}
use Rattle.decimal.specs.Decimal.{above_zero}
use Rattle.decimal.proofs.above_zero.Goals as goal

pub returns-then-d : goal.returns-then-d
unfolding above_zero
returns-then-d c = sym (cond_yes _ _ c.if-d.true)

pub returns : goal.returns
unfolding above_zero
returns c = sym (cond_no _ _ c.if-d.false)
