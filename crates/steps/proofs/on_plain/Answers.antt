-- A keyword line closes first, or it is none.
use mathlib.Core.Path.{refl, sym, ◌∙◌}
use Rattle.laws.proofs.Handed.{handed_on}
use Rattle.laws.proofs.Tests.{cond_no}
use Rattle.rules.specs.Steps.{on_plain}
use Rattle.steps.proofs.on_plain.Goals as goal

pub returns-then-not-bracketed : goal.returns-then-not-bracketed
unfolding on_plain
returns-then-not-bracketed c = c.on_line.ensures ∙ sym (cond_no _ _ (sym c.bracketed.ensures ∙ c.if-not-bracketed.true))

pub returns-in_err-t : goal.returns-in_err-t
unfolding on_plain
returns-in_err-t c =
    handed_on _ c.from_residual.ensures.1 ∙ rw (sym c.bracketed.ensures ∙ c.if-not-bracketed.false, sym c.shut_list.ensures, c.in_err-t.was) refl

pub returns : goal.returns
unfolding on_plain
returns c = c.keyword_line.ensures ∙ rw (sym c.bracketed.ensures ∙ c.if-not-bracketed.false, sym c.shut_list.ensures, c.in_ok-t.was) refl
