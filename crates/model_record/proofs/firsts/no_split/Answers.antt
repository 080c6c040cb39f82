-- By the cells that are missing.
use Rattle.model_record.proofs.firsts.no_split.Goals as goal

pub returns : goal.returns
returns c = rw c.no_cells.ensures
