-- Value by value.
use Rattle.questions.specs.Valued.{values_of}
use Rattle.questions.proofs.values.values_of.Goals as goal

pub returns : goal.returns
unfolding values_of
returns c = cc
