-- By the tests, in the definition's order.
use mathlib.Core.Path.{refl}
use borrow.Author.Tests.{ne_eqb, le-leb, lt-leb}
use Rattle.lines.specs.Lines.{is_allowed}
use Rattle.refusal_text.specs.Shown.{visible}
use Rattle.refusal_text.proofs.shown.visible_byte.Goals as goal

pub returns-then-b-eq9 : goal.returns-then-b-eq9
unfolding visible is_allowed
returns-then-b-eq9 c = rw c.if-b-eq9.true refl

pub returns-then-b-lt32 : goal.returns-then-b-lt32
unfolding visible is_allowed
returns-then-b-lt32 c = rw (lt-leb 32 c.args.b c.if-b-lt32.true, ne_eqb c.args.b 9 c.if-b-eq9.false)

pub returns-then-b-gt126 : goal.returns-then-b-gt126
unfolding visible is_allowed
returns-then-b-gt126 c = rw (le-leb 32 c.args.b c.if-b-lt32.false, lt-leb c.args.b 126 c.if-b-gt126.true, ne_eqb c.args.b 9 c.if-b-eq9.false)

pub returns-else-b-gt126 : goal.returns-else-b-gt126
unfolding visible is_allowed
returns-else-b-gt126 c = rw (le-leb 32 c.args.b c.if-b-lt32.false, le-leb c.args.b 126 c.if-b-gt126.false)
