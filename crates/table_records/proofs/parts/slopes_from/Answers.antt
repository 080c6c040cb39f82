-- Part by part.
use Rattle.table_records.specs.Records.{slopes_from}
use Rattle.table_records.proofs.parts.slopes_from.Goals as goal

pub returns : goal.returns
unfolding slopes_from
returns c = rw (c.slope_in-3.ensures, c.cell_at-6.ensures, c.cell_at-5.ensures, c.slope_in-2.ensures, c.cell_at-4.ensures, c.cell_at-3.ensures, c.slope_in.ensures, c.cell_at-2.ensures, c.cell_at.ensures)
