-- A blank pin but for its name.
use Rattle.lending.proofs.spare_pin.Goals as goal

pub returns : goal.returns
returns c = rw c.blank_pin-pin.ensures
