-- The lines from this cursor on are those from the first: `passed-change` at a turn, and the ways out by the laws beside it.
use Prim.Native.Nat.{◌-◌}
use lib.ListN.{length}
use Rattle.lines_under.proofs.Laws.{Passed}
use Rattle.lines_under.proofs.next_line.Given as goal

abbrev pub invariant-loop-line : goal.invariant-loop-line
invariant-loop-line l = Passed l.src l.initial.d l.d

abbrev pub decreases-loop-line : goal.decreases-loop-line
decreases-loop-line l = length l.src - l.d.at
