-- Part by part.
use Rattle.table_records.specs.Records.{selector_from}
use Rattle.table_records.proofs.tables.selector_from.Goals as goal

pub returns : goal.returns
unfolding selector_from
returns c = rw (c.span_at.ensures, c.name_at.ensures, c.number_at.ensures)
