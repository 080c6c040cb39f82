-- The thresholds by their promise.
use Rattle.model_record.proofs.record.model_over.Goals as goal

pub returns : goal.returns
returns c = rw c.with_defaults-levels.ensures
