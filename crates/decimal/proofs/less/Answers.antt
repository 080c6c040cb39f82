-- `decimal::less`: one law for each pair of signs.
use mathlib.Core.Path.{sym, ◌∙◌}
use Rattle.decimal.proofs.Order.{less_both, less_zero, less-below, less-right, less-neither}
use Rattle.decimal.proofs.less.Goals as goal

pub returns-then-b : goal.returns-then-b
returns-then-b c = c.smaller.ensures ∙ sym (less_both _ _ c.if-a.true c.if-b.true)

pub returns-then-a-eq0 : goal.returns-then-a-eq0
returns-then-a-eq0 c = sym (less_zero _ _ c.if-a.true c.if-b.false c.if-a-eq0.true)

pub returns-then-a : goal.returns-then-a
returns-then-a c = sym (less-below _ _ c.if-a.true c.if-b.false c.if-a-eq0.false)

pub returns-then-b-2 : goal.returns-then-b-2
returns-then-b-2 c = sym (less-right _ _ c.if-a.false c.if-b-2.true)

pub returns : goal.returns
returns c = c.smaller-2.ensures ∙ sym (less-neither _ _ c.if-a.false c.if-b-2.false)
