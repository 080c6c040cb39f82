-- The pin, and the component that has it.
use Rattle.questions.specs.Valued.{values_of_pin}
use Rattle.questions.proofs.values.values_of_pin.Goals as goal

pub returns : goal.returns
unfolding values_of_pin
returns c = cc
