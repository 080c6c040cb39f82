-- The parts moved into the file: of other lengths they differ.
use mathlib.Core.Path.{sym}
use Rattle.name_checks.proofs.NoteLaws.{within-apart}
use Rattle.name_checks.proofs.places.same_parts.Goals as goal

pub returns-then-e-a : goal.returns-then-e-a
returns-then-e-a c = sym (within-apart c.args.src.now c.args.w c.args.v c.within-x.result c.within-y.result c.within-x.ensures c.within-y.ensures c.if-e-a.true)
