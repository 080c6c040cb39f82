-- One test after the other.
use mathlib.Core.Path.{sym, ◌∙◌}
use Rattle.laws.proofs.Tests.{cond_yes, cond_no}
use Rattle.rules.specs.Types.{defaults}
use Rattle.rules.proofs.types.defaults.Goals as goal

pub returns-then-is_ecl : goal.returns-then-is_ecl
unfolding defaults
returns-then-is_ecl c = c.ecl_thresholds.ensures ∙ sym (cond_yes _ _ (sym c.is_ecl.ensures ∙ c.if-is_ecl.true))

pub returns-then-is_input : goal.returns-then-is_input
unfolding defaults
returns-then-is_input c =
    c.input_thresholds.ensures
    ∙ sym (cond_no _ _ (sym c.is_ecl.ensures ∙ c.if-is_ecl.false) ∙ cond_yes _ _ (sym c.is_input.ensures ∙ c.if-is_input.true))

pub returns : goal.returns
unfolding defaults
returns c =
    c.no_thresholds.ensures
    ∙ sym (cond_no _ _ (sym c.is_ecl.ensures ∙ c.if-is_ecl.false) ∙ cond_no _ _ (sym c.is_input.ensures ∙ c.if-is_input.false))
