-- Part by part.
use Rattle.table_records.specs.Records.{choice_from}
use Rattle.table_records.proofs.tables.choice_from.Goals as goal

pub returns : goal.returns
unfolding choice_from
returns c = rw (c.text_from.ensures, c.words_from.ensures, c.name_from.ensures)
