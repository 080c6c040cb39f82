-- What is found from place i on is what the whole search finds.
use Rattle.lent_pins.specs.Search.{try_pin}
use Rattle.lent_pins.proofs.Laws.{Goes}
use Rattle.lent_pins.proofs.find_pin.Given as goal

abbrev pub invariant-loop-i : goal.invariant-loop-i
invariant-loop-i l = Goes (try_pin l.sought) l.pin-items l.i
