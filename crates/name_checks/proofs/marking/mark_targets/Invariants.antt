-- The marks from the last name up, the models and selectors being listed; a turn of it is one law.
use Rattle.name_checks.proofs.MarkLaws.{Marking}
use Rattle.name_checks.proofs.marking.mark_targets.Given as goal

abbrev pub invariant-loop-i : goal.invariant-loop-i
invariant-loop-i l = Marking l.src l.notes l.n l.i l.first l.marks
