-- Part by part.
use Rattle.table_records.specs.Records.{pin_from}
use Rattle.table_records.proofs.tables.pin_from.Goals as goal

pub returns : goal.returns
unfolding pin_from
returns c = rw (c.cell_at-3.ensures, c.cell_at-2.ensures, c.cell_at.ensures, c.name_at-2.ensures, c.name_at.ensures, c.name_from.ensures)
