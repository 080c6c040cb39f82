-- Each name's form in turn.
use Rattle.std.specs.Prelude.{Err}
use mathlib.Core.Path.{sym, ap, ◌∙◌}
use mathlib.Core.Bool.{not}
use Rattle.laws.proofs.Tests.{cond_yes, cond_no}
use Rattle.records.specs.Flaws.{checked}
use Rattle.component_steps.specs.Steps.{names_fault}
use Rattle.component_steps.proofs.names_fault.Goals as goal

pub returns-then-not-pin_name : goal.returns-then-not-pin_name
unfolding names_fault
returns-then-not-pin_name c = ap Err c.at_fault.ensures ∙ sym (ap checked (cond_yes _ _ (ap not (sym c.pin_name.ensures ∙ c.if-not-pin_name.true))))

pub returns-then-not-sized : goal.returns-then-not-sized
unfolding names_fault
returns-then-not-sized c =
    ap Err c.at_fault-then-not-sized.ensures
    ∙ sym (ap checked (cond_no _ _ (ap not (sym c.pin_name.ensures ∙ c.if-not-pin_name.false)) ∙ cond_yes _ _ (ap not (sym c.sized.ensures ∙ c.if-not-sized.true))))

pub returns-then-not-pin_model : goal.returns-then-not-pin_model
unfolding names_fault
returns-then-not-pin_model c =
    ap Err c.at_fault-then-not-pin_model.ensures
    ∙ sym (ap checked (cond_no _ _ (ap not (sym c.pin_name.ensures ∙ c.if-not-pin_name.false)) ∙ cond_no _ _ (ap not (sym c.sized.ensures ∙ c.if-not-sized.false)) ∙ cond_yes _ _ (ap not (sym c.pin_model.ensures ∙ c.if-not-pin_model.true))))

pub returns : goal.returns
unfolding names_fault
returns c =
    sym (ap checked (cond_no _ _ (ap not (sym c.pin_name.ensures ∙ c.if-not-pin_name.false)) ∙ cond_no _ _ (ap not (sym c.sized.ensures ∙ c.if-not-sized.false)) ∙ cond_no _ _ (ap not (sym c.pin_model.ensures ∙ c.if-not-pin_model.false))))
