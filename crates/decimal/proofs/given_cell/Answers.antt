-- `decimal::given_cell`: the number as a cell.
use mathlib.Core.Path.{sym, ◌∙◌}
use Rattle.decimal.proofs.Answers.{cell-from}
use Rattle.decimal.proofs.given_cell.Goals as goal

pub returns-in-Ok : goal.returns-in-Ok
returns-in-Ok c = cell-from _ _ (sym c.in-Ok.is ∙ c.number_of.ensures)

pub returns-in-Err : goal.returns-in-Err
returns-in-Err c = cell-from _ _ (sym c.in-Err.is ∙ c.number_of.ensures)
