-- What is told of three words, read so, is made three cells: `no-cells`, `the-cells`.
use Rattle.std.proofs.Common.{rules}
use Rattle.decimal.specs.Decimal.{cell_of}
use Rattle.line_rules.proofs.Columns.{cell-columns}
use Rattle.line_cells.proofs.Laws.{reads-by, no-cells, the-cells}
use Rattle.line_cells.proofs.cells_by.Goals as goal

pub returns-in_err-typ : goal.returns-in_err-typ
returns-in_err-typ g c p h =
    let o = no-cells _ _ p (c.in_err-typ.ensures _ _ h (reads-by cell_of cell-columns (λ x a e. e))) in
    search rules

pub returns : goal.returns
returns g c p h = the-cells _ _ p (c.in_ok-typ.ensures _ _ h (reads-by cell_of cell-columns (λ x a e. e)))
