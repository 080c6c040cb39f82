-- Each as it is filled.
use Rattle.rules.proofs.types.thresholds.Goals as goal

pub returns : goal.returns
returns c = rw (c.filled-2.ensures, c.filled.ensures, c.defaults-standard.ensures)
