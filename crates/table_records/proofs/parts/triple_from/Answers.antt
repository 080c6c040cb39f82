-- Part by part.
use Rattle.table_records.specs.Records.{triple_from}
use Rattle.table_records.proofs.parts.triple_from.Goals as goal

pub returns : goal.returns
unfolding triple_from
returns c = rw (c.cell_at-3.ensures, c.cell_at-2.ensures, c.cell_at.ensures)
