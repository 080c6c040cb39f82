-- After [End], a fault 5, before [IBIS Ver], its own fault, or on: `refused`, `passed`.
use mathlib.Core.Path.{sym, ◌∙◌}
use borrow.Author.Tests.{eq-eqb, ne_eqb}
use Rattle.laws.proofs.Tests.{cond_yes, cond_no}
use Rattle.rules.specs.Going.{passes}
use Rattle.rules.specs.Steps.{on_change}
use Rattle.rules.proofs.Going.{refused, passed}
use Rattle.steps.proofs.on_change.Goals as goal

pub returns-then-is_ended : goal.returns-then-is_ended
unfolding on_change
returns-then-is_ended c = c.stopped.ensures ∙ refused 7 _ _ (sym c.is_ended.ensures ∙ c.if-is_ended.true)

pub returns-then-fault-eq5 : goal.returns-then-fault-eq5
unfolding on_change
returns-then-fault-eq5 c =
    c.stopped-then-fault-eq5.ensures
    ∙ refused 5 _ _ (eq-eqb _ 5 c.if-fault-eq5.true)
    ∙ passed 7 _ _ (sym c.is_ended.ensures ∙ c.if-is_ended.false)

pub returns-then-is_before : goal.returns-then-is_before
unfolding on_change
returns-then-is_before c =
    c.stopped-then-is_before.ensures
    ∙ refused 7 _ _ (sym c.is_before.ensures ∙ c.if-is_before.true)
    ∙ passed 5 _ _ (ne_eqb _ 5 c.if-fault-eq5.false)
    ∙ passed 7 _ _ (sym c.is_ended.ensures ∙ c.if-is_ended.false)

pub returns-then-fault-ne0 : goal.returns-then-fault-ne0
unfolding on_change passes
returns-then-fault-ne0 c =
    c.stopped_at.ensures
    ∙ sym (cond_no _ _ (ne_eqb _ 0 c.if-fault-ne0.true))
    ∙ passed 7 _ _ (sym c.is_before.ensures ∙ c.if-is_before.false)
    ∙ passed 5 _ _ (ne_eqb _ 5 c.if-fault-eq5.false)
    ∙ passed 7 _ _ (sym c.is_ended.ensures ∙ c.if-is_ended.false)

pub returns : goal.returns
unfolding on_change passes
returns c =
    c.quiet.ensures
    ∙ sym (cond_yes _ _ (eq-eqb _ 0 c.if-fault-ne0.false))
    ∙ passed 7 _ _ (sym c.is_before.ensures ∙ c.if-is_before.false)
    ∙ passed 5 _ _ (ne_eqb _ 5 c.if-fault-eq5.false)
    ∙ passed 7 _ _ (sym c.is_ended.ensures ∙ c.if-is_ended.false)
