-- The line is fair, so the fault of what is told is what its check answers.
use mathlib.Core.Path.{sym, ap, ◌∙◌}
use Rattle.laws.proofs.Handed.{handed_on}
use Rattle.line_rules.proofs.Fair.{cells-line-fair, fault_of, fair-checked}
use Rattle.line_faults.proofs.cells_fault.Goals as goal

pub returns-in_err-cells_line : goal.returns-in_err-cells_line
returns-in_err-cells_line c =
    handed_on _ c.from_residual.ensures.1 ∙ ap fault_of (sym c.in_err-cells_line.was ∙ c.cells_line.ensures) ∙ fair-checked _ (cells-line-fair c.args.w.now)

pub returns : goal.returns
returns c = ap fault_of (sym c.in_ok-cells_line.was ∙ c.cells_line.ensures) ∙ fair-checked _ (cells-line-fair c.args.w.now)
