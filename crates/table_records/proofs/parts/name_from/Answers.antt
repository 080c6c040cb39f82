-- As a text of that length.
use Rattle.table_records.specs.Records.{name_from}
use Rattle.table_records.proofs.parts.name_from.Goals as goal

pub returns : goal.returns
unfolding name_from
returns c = c.text_in.ensures
