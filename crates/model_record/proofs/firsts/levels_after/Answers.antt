-- Field by field.
use Rattle.model_record.proofs.firsts.levels_after.Goals as goal

pub returns : goal.returns
returns c = rw (c.number_after.ensures, c.number_after-2.ensures, c.number_after-3.ensures, c.number_after-4.ensures, c.number_after-5.ensures, c.number_after-6.ensures)
