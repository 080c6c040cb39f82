-- Part by part.
use Rattle.table_records.specs.Records.{span_from}
use Rattle.table_records.proofs.parts.span_from.Goals as goal

pub returns : goal.returns
unfolding span_from
returns c = rw (c.number_at-2.ensures, c.number_at.ensures)
