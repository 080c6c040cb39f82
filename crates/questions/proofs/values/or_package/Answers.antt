-- The two cases of a cell.
use mathlib.Core.Path.{refl}
use Rattle.questions.proofs.values.or_package.Goals as goal

pub returns-in-Number : goal.returns-in-Number
returns-in-Number c = rw c.in-Number.is refl
