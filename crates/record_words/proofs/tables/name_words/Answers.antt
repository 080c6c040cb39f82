-- Word by word, by computing.
use Rattle.record_words.specs.Records.{eights, laid_words}
use Rattle.record_words.proofs.tables.name_words.Goals as goal

pub returns : goal.returns
unfolding laid_words eights
returns c = c.laid_words.ensures
