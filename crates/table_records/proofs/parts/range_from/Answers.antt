-- Part by part.
use Rattle.table_records.specs.Records.{range_from}
use Rattle.table_records.proofs.parts.range_from.Goals as goal

pub returns : goal.returns
unfolding range_from
returns c = rw (c.triple_from.ensures, c.words_from.ensures, c.flag_in.ensures, c.number_at.ensures)
