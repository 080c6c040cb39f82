-- A search of the whole table.
use Rattle.table_records.specs.Records.{model_from}
use Rattle.questions.specs.Searched.{model_named}
use Rattle.questions.proofs.searches.model_named.Goals as goal

pub returns : goal.returns
unfolding model_named model_from
returns c = c.first_named.ensures
