-- Part by part.
use Rattle.table_records.specs.Records.{row_from}
use Rattle.table_records.proofs.tables.row_from.Goals as goal

pub returns : goal.returns
unfolding row_from
returns c = rw (c.as_row.ensures, c.triple_at.ensures, c.cell_at.ensures)
