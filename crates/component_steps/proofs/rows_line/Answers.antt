-- A fault of the row, or on: `flawed`, `flawless`.
use Rattle.rules.proofs.Going.{flawed, flawless}
use Rattle.component_steps.proofs.rows_line.Goals as goal

pub returns-in_err-at_line : goal.returns-in_err-at_line
returns-in_err-at_line c = flawed _ _ _ c.row_fault.ensures c.at_line.ensures _ c.from_residual.ensures.1 c.in_err-at_line.was

pub returns : goal.returns
returns c = flawless _ _ _ c.row_fault.ensures c.at_line.ensures c.in_ok-at_line.was
