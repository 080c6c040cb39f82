-- The two thresholds; the rest stays.
use Rattle.model_record.proofs.firsts.with_defaults.Goals as goal

pub returns : goal.returns
returns c = rw c.thresholds-t.ensures
