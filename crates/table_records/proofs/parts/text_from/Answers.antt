-- As a text of that length.
use Rattle.table_records.specs.Records.{text_from}
use Rattle.table_records.proofs.parts.text_from.Goals as goal

pub returns : goal.returns
unfolding text_from
returns c = c.text_in.ensures
