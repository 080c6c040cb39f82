-- The line is fair, so the fault of what is told is what its check answers.
use mathlib.Core.Path.{sym, ap, ◌∙◌}
use Rattle.laws.proofs.Handed.{handed_on}
use Rattle.line_rules.proofs.Fair.{number-line-fair, fault_of, fair-checked}
use Rattle.line_faults.proofs.number_fault.Goals as goal

pub returns-in_err-number_line : goal.returns-in_err-number_line
returns-in_err-number_line c =
    handed_on _ c.from_residual.ensures.1 ∙ ap fault_of (sym c.in_err-number_line.was ∙ c.number_line.ensures) ∙ fair-checked _ (number-line-fair c.args.w.now)

pub returns : goal.returns
returns c = ap fault_of (sym c.in_ok-number_line.was ∙ c.number_line.ensures) ∙ fair-checked _ (number-line-fair c.args.w.now)
