-- The bit of the word that was read.
use Rattle.name_checks.specs.Lookup.{is_seen}
use Rattle.name_checks.proofs.seen.is_seen.Goals as goal

pub returns : goal.returns
unfolding is_seen
returns c = c.is_given.ensures
