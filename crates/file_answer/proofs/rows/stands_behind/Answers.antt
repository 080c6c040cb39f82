-- The fields, one by one.
use mathlib.Core.Path.{refl}
use Rattle.file_answer.proofs.rows.stands_behind.Goals as goal

pub returns : goal.returns
returns c = rw c.with_list.ensures refl
