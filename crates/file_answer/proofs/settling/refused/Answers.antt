-- Nothing is told but the fault.
use mathlib.Core.Path.{refl}
use Rattle.file_answer.proofs.settling.refused.Goals as goal

pub returns : goal.returns
returns c = rw c.words_of.ensures rw c.words_of-2.ensures refl
