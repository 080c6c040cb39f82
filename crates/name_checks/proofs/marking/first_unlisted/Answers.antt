-- The first fault from here on is told, from the last name up.
use Prim.Native.Nat.{◌-◌}
use mathlib.Core.Path.{sym, ap, ◌∙◌}
use native.Mathlib.Omega.{arith}
use Rattle.name_checks.specs.Lookup.{unmarked}
use Rattle.name_checks.proofs.MarkLaws.{unmarked-turn, unmarked-none}
use Rattle.name_checks.proofs.marking.first_unlisted.Goals as goal

pub loop-j-init : goal.loop-j-init
loop-j-init c = (unmarked-none c.args.notes.now c.args.marks.now c.args.n)

pub loop-j-preserved : goal.loop-j-preserved
loop-j-preserved c = (c.unlisted_at-first.ensures ∙ ap (unmarked c.args.notes.now c.args.marks.now (c.loop-j.j - 1)) c.loop-j.invariant ∙ sym (unmarked-turn c.args.notes.now c.args.marks.now c.args.n c.loop-j.j c.loop-j-test.true (omega arith)))
