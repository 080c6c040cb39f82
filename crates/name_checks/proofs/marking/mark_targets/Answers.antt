-- The marks from the last name up, the models and selectors being listed; a turn of it is one law.
use native.Mathlib.Omega.{arith}
use Rattle.name_checks.proofs.ListingLaws.{listed-all}
use Rattle.name_checks.proofs.MarkLaws.{marking-none, marking-turn}
use Rattle.name_checks.proofs.marking.mark_targets.Goals as goal

pub loop-i-init : goal.loop-i-init
loop-i-init c =
    let a = c.args in
    (marking-none a.src.now a.notes.now a.marks.now a.n c.requires.clear)

pub mark_target-first-requires : goal.mark_target-first-requires
mark_target-first-requires c =
    let a = c.args in
    record {
      n_le_names_held = (c.requires.n_le_names_held, omega arith);
      n_value = (c.requires.n_value, listed-all a.src.now a.notes.now a.n _ c.list_names.ensures.seen_after);
    }

pub loop-i-preserved : goal.loop-i-preserved
loop-i-preserved c =
    let a = c.args in
    let p = c.loop-i in
    (marking-turn a.src.now a.notes.now a.n p.i p.first p.marks c.requires.n_value p.invariant c.loop-i-test.true (omega arith) c.mark_target-first.result _ c.mark_target-first.ensures.value c.mark_target-first.ensures.marks_after)
