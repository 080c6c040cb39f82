-- From the last name up: the last of those so far is the last of all.
use mathlib.Core.Path.{sym, ◌∙◌}
use native.Mathlib.Omega.{arith}
use Rattle.name_checks.proofs.TargetLaws.{turn-here, turn-sooner, target_none}
use Rattle.name_checks.proofs.marking.search_target.Goals as goal

pub returns-then-names_it : goal.returns-then-names_it
returns-then-names_it c = turn-here c.args.src.now c.args.notes.now c.args.i c.loop-j.j c.loop-j-test.true (sym c.names_it.ensures ∙ c.if-names_it.true) ∙ c.loop-j.invariant

pub loop-j-preserved : goal.loop-j-preserved
loop-j-preserved c = (turn-sooner c.args.src.now c.args.notes.now c.args.i c.loop-j.j c.loop-j-test.true (sym c.names_it.ensures ∙ c.if-names_it.false) ∙ c.loop-j.invariant)

pub returns : goal.returns
returns c = target_none c.args.src.now c.args.notes.now c.args.i c.loop-j.j (omega arith) ∙ c.loop-j.invariant
