-- Behind the pins so far the lines say what they say from the first of them on.
use Prim.Native.Nat.{◌-◌}
use mathlib.Core.Path.{◌≡◌}
use lib.ListN.{length}
use Rattle.records.specs.declared.Kind.TheVariants.{OfPin}
use Rattle.records.specs.declared.Lengths.{Lengths}
use Rattle.rules.specs.Whole.{bound}
use Rattle.file_answer.specs.Pins.{with_pins, PinsAre}
use Rattle.file_answer.proofs.pins.pass_pins.Given as goal

-- whatever else is lent, with room for so many pins
abbrev pub invariant-loop-pins : goal.invariant-loop-pins
invariant-loop-pins l =
    (length l.notes ≡ length l.initial.notes) × ((lent : Lengths) → l.bound ≡ bound lent OfPin → PinsAre lent l.src l.initial.notes l.initial.cursor l.t l.long l.notes (record { cursor = l.cursor; tally = with_pins l.t l.names l.pins }))

abbrev pub decreases-loop-pins : goal.decreases-loop-pins
decreases-loop-pins l = length l.src - l.cursor.at
