-- Below the width by the law of the bit, and from there on the test fails and nothing is given.
use mathlib.Core.Path.{sym, ◌∙◌}
use native.Mathlib.Omega.{arith}
use borrow.Author.Tests.{le-ltb}
use Rattle.given.proofs.Laws.{has-below, has-past}
use Rattle.given.proofs.Given.is_given.Goals as goal

pub returns-then-k-lt64 : goal.returns-then-k-lt64
returns-then-k-lt64 c = sym (has-below c.args.self c.args.k (omega arith))

pub returns-else-k-lt64 : goal.returns-else-k-lt64
returns-else-k-lt64 c = le-ltb c.args.k 64 c.if-k-lt64.false ∙ sym (has-past c.args.self c.args.k c.if-k-lt64.false)
