-- A number and two cells.
use Rattle.decimal.specs.Decimal.{given_cell}
use Rattle.line_rules.specs.Fields.{three_cells}
use Rattle.line_rules.proofs.Columns.{given-columns}
use Rattle.line_cells.proofs.Laws.{reads-by}
use Rattle.line_cells.proofs.three_cells.Goals as goal

pub returns : goal.returns
unfolding three_cells
returns c = c.cells_by.ensures given_cell (reads-by given_cell given-columns (λ x a e. e))
