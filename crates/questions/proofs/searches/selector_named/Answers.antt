-- A search of the whole table.
use Rattle.table_records.specs.Records.{selector_from}
use Rattle.questions.specs.Searched.{selector_named}
use Rattle.questions.proofs.searches.selector_named.Goals as goal

pub returns : goal.returns
unfolding selector_named selector_from
returns c = c.first_named.ensures
