-- Three cells.
use Rattle.decimal.specs.Decimal.{cell_of}
use Rattle.line_rules.proofs.Columns.{cell-columns}
use Rattle.line_cells.proofs.Laws.{reads-by}
use Rattle.line_cells.proofs.any_cells.Goals as goal

pub returns : goal.returns
returns c = c.cells_by.ensures cell_of (reads-by cell_of cell-columns (λ x a e. e))
