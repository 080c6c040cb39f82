-- `decimal::settle`: the invariant is `Left`, with one law for a turn, and one for the end.
use Rattle.decimal.proofs.Settled.{left-turn, left_end, settle-zero}
use Rattle.decimal.proofs.settle.Goals as goal

pub returns-then-number-eq0 : goal.returns-then-number-eq0
returns-then-number-eq0 c = settle-zero _ _ _ _ c.if-number-eq0.true

pub loop-digits-preserved : goal.loop-digits-preserved
loop-digits-preserved c = left-turn _ _ _ _ c.loop-digits.invariant c.loop-digits-test.true

pub returns : goal.returns
returns c = left_end _ _ _ _ c.loop-digits.invariant _ _ _ c.if-number-eq0.false c.loop-digits-test.false c.fit.ensures
