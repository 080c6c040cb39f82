-- The keywords from this cursor on are those from the first: `sought-change` and `sought-none` at a turn.
use Prim.Native.Nat.{◌-◌}
use lib.ListN.{length}
use Rattle.lines_under.proofs.Laws.{Sought}
use Rattle.lines_under.proofs.next_key.Given as goal

abbrev pub invariant-loop-line : goal.invariant-loop-line
invariant-loop-line l = Sought l.src l.initial.d l.d

abbrev pub decreases-loop-line : goal.decreases-loop-line
decreases-loop-line l = length l.src - l.d.at
