-- Part by part.
use Rattle.table_records.specs.Records.{table_from}
use Rattle.table_records.proofs.parts.table_from.Goals as goal

pub returns : goal.returns
unfolding table_from
returns c = rw (c.span_from.ensures, c.words_from.ensures, c.flag_in.ensures, c.number_at.ensures)
