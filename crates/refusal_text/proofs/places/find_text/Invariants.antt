-- The text sought from this cursor on is the one sought from the first: a law for each way out, and for each turn.
use Prim.Native.Nat.{◌-◌}
use lib.ListN.{length}
use Rattle.refusal_text.proofs.TextLaws.{Sought}
use Rattle.refusal_text.proofs.places.find_text.Given as goal

abbrev pub invariant-loop-line : goal.invariant-loop-line
invariant-loop-line l = Sought l.src l.number l.cursor

abbrev pub decreases-loop-line : goal.decreases-loop-line
decreases-loop-line l = length l.src - l.cursor.at
