-- By what the search answers; a section has nothing to search for, and what is not found is the fault.
use mathlib.Core.Path.{sym, ◌∙◌}
use native.Mathlib.Omega.{arith}
use Rattle.name_checks.proofs.TargetLaws.{section-marks, target-within}
use Rattle.name_checks.proofs.marking.mark_target.Goals as goal

pub returns-then-not-is_enclosed : goal.returns-then-not-is_enclosed
returns-then-not-is_enclosed c =
    let a = c.args in
    let old : _ × _ = section-marks a.src.now a.notes.now a.i c.kind_at.result c.kind_at.ensures a.marks.now a.later a.n (sym c.is_enclosed.ensures ∙ c.if-not-is_enclosed.true) in record { value = old.0; marks_after = old.1 }

pub bounds-marks-j : goal.bounds-marks-j
bounds-marks-j c =
    let a = c.args in
    omega (arith, target-within a.src.now a.notes.now a.i a.n c.in-Some.j c.find_target-target.result c.find_target-target.ensures c.in-Some.is, c.requires.n_le_names_held, c.requires.n_value)
