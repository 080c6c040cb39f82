-- By whether it is a tab.
use mathlib.Core.Path.{refl}
use borrow.Author.Tests.{ne_eqb}
use Rattle.refusal_text.specs.Shown.{blank_for}
use Rattle.refusal_text.proofs.shown.blank_byte.Goals as goal

pub returns-then-b-eq9 : goal.returns-then-b-eq9
unfolding blank_for
returns-then-b-eq9 c = rw c.if-b-eq9.true refl

pub returns-else-b-eq9 : goal.returns-else-b-eq9
unfolding blank_for
returns-else-b-eq9 c = rw (ne_eqb c.args.b 9 c.if-b-eq9.false) refl
