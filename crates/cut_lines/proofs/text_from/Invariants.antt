-- The lines passed so far left nothing: the texts from this line on are those from the first. Each way out is a law on one line more.
use Prim.Native.Nat.{◌-◌}
use lib.ListN.{length}
use Rattle.cut_lines.proofs.Laws.{Passed}
use Rattle.cut_lines.proofs.text_from.Given as goal

abbrev pub invariant-loop-at : goal.invariant-loop-at
invariant-loop-at l =
    Passed l.s (record { at = l.from; line = l.number; comment = l.comment }) (record { at = l.at; line = l.line; comment = l.comment })

abbrev pub decreases-loop-at : goal.decreases-loop-at
decreases-loop-at l = length l.s - l.at
