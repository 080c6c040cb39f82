-- By whether one of its kind was given.
use mathlib.Core.Path.{sym}
use Rattle.laws.proofs.Tests.{cond_yes, cond_no}
use Rattle.model_record.proofs.bodies.with_table.Goals as goal

pub returns-then-t : goal.returns-then-t
returns-then-t c = sym (cond_yes _ _ c.if-t.true)

pub returns : goal.returns
returns c = sym (cond_no _ _ c.if-t.false)
