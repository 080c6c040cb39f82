-- By whether the place is one of n.
use mathlib.Core.Path.{refl}
use borrow.Author.Tests.{lt-ltb, le-ltb}
use Rattle.name_checks.proofs.marking.is_target.Goals as goal

pub returns-then-j-n : goal.returns-then-j-n
returns-then-j-n c = rw (lt-ltb c.args.j c.args.n c.if-j-n.true) c.names_it.ensures

pub returns : goal.returns
returns c = rw (le-ltb c.args.j c.args.n c.if-j-n.false) refl
