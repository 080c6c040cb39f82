-- The argument is fair, so the fault of what is told is what its check answers.
use mathlib.Core.Path.{sym, ap, ◌∙◌}
use lib.ListN.{drop}
use Rattle.laws.proofs.Handed.{handed_on}
use Rattle.line_rules.proofs.Fair.{given-fair, fault_of, fair-checked}
use Rattle.line_faults.proofs.cells_argument.Goals as goal

pub returns-in_err-three_cells : goal.returns-in_err-three_cells
returns-in_err-three_cells c =
    handed_on _ c.from_residual.ensures.1 ∙ ap fault_of (sym c.in_err-three_cells.was ∙ c.three_cells.ensures) ∙ fair-checked _ (given-fair (drop c.args.at c.args.w.now))

pub returns : goal.returns
returns c = ap fault_of (sym c.in_ok-three_cells.was ∙ c.three_cells.ensures) ∙ fair-checked _ (given-fair (drop c.args.at c.args.w.now))
