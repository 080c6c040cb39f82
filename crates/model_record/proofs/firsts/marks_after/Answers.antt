-- Field by field.
use Rattle.model_record.proofs.firsts.marks_after.Goals as goal

pub returns : goal.returns
returns c = rw (c.type_after.ensures, c.polarity_after.ensures, c.enable_after.ensures)
