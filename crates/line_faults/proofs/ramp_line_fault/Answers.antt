-- By the place: the third is R_load. The line is fair, so the fault of what is told is what its check answers.
use mathlib.Core.Path.{sym, ap, ◌∙◌}
use borrow.Author.Tests.{eq-eqb, ne_eqb}
use Rattle.laws.proofs.Tests.{cond_yes, cond_no}
use Rattle.laws.proofs.Handed.{handed_on}
use Rattle.records.specs.Flaws.{Flaw, flaw_in, told, checked}
use Rattle.line_rules.specs.Fields.{number_line, slopes_line}
use Rattle.line_rules.proofs.Fair.{slopes-line-fair, fault_of, fair-checked}
use Rattle.line_faults.specs.Places.{ramp_at}
use Rattle.line_faults.proofs.ramp_line_fault.Goals as goal

pub returns-then-n-eq2 : goal.returns-then-n-eq2
unfolding ramp_at
returns-then-n-eq2 c =
    let w = c.args.w.now in
    c.number_fault.ensures ∙ ap (λ (f : Flaw). checked (told w f)) (sym (cond_yes (flaw_in (number_line w)) (flaw_in (slopes_line w)) (eq-eqb _ 2 c.if-n-eq2.true)))

pub returns-in_err-slopes_line : goal.returns-in_err-slopes_line
unfolding ramp_at
returns-in_err-slopes_line c =
    let w = c.args.w.now in
    handed_on _ c.from_residual.ensures.1
    ∙ ap fault_of (sym c.in_err-slopes_line.was ∙ c.slopes_line.ensures)
    ∙ fair-checked w (slopes-line-fair w)
    ∙ ap (λ (f : Flaw). checked (told w f)) (sym (cond_no (flaw_in (number_line w)) (flaw_in (slopes_line w)) (ne_eqb _ 2 c.if-n-eq2.false)))

pub returns : goal.returns
unfolding ramp_at
returns c =
    let w = c.args.w.now in
    ap fault_of (sym c.in_ok-slopes_line.was ∙ c.slopes_line.ensures)
    ∙ fair-checked w (slopes-line-fair w)
    ∙ ap (λ (f : Flaw). checked (told w f)) (sym (cond_no (flaw_in (number_line w)) (flaw_in (slopes_line w)) (ne_eqb _ 2 c.if-n-eq2.false)))
