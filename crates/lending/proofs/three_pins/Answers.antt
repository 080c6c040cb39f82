-- One record, over and over.
use mathlib.Core.Path.{ap}
use lib.ListN.{replicate}
use Rattle.records.specs.declared.Pin.{Pin}
use Rattle.lending.specs.Lent.{three_pins}
use Rattle.lending.proofs.three_pins.Goals as goal

pub returns : goal.returns
unfolding three_pins
returns c = ap (λ (x : Pin). replicate 3 x) c.spare_pin-pin.ensures
