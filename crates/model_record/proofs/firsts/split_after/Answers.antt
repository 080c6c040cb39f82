-- Group by group.
use Rattle.model_record.proofs.firsts.split_after.Goals as goal

pub returns : goal.returns
returns c =
    rw (c.group_after.ensures, c.group_after-2.ensures, c.group_after-3.ensures, c.group_after-4.ensures)
