-- The lines counted and those from this cursor on are those from the first: a fold that adds one a line.
use Prim.Native.Nat.{◌-◌}
use lib.ListN.{length}
use Rattle.lines_under.proofs.Folds.{Gathers, count-fold}
use Rattle.lines_under.proofs.count_lines.Given as goal

abbrev pub invariant-loop-start : goal.invariant-loop-start
invariant-loop-start l = Gathers count-fold l.src l.initial.d l.d l.initial.count l.count

abbrev pub decreases-loop-start : goal.decreases-loop-start
decreases-loop-start l = length l.src - l.d.at
