-- The lines from here on, with what is noted so far, give what all lines give.
use Prim.Native.Nat.{◌-◌}
use mathlib.Core.Path.{◌≡◌}
use lib.ListN.{length}
use Rattle.file_answer.specs.Scans.{Ground, standing, run_from}
use Rattle.file_answer.proofs.reading.scan.Given as goal

abbrev pub invariant-loop-line : goal.invariant-loop-line
invariant-loop-line l =
    Ground l.src l.notes l.cursor l.tally × (length l.notes ≡ length l.initial.notes) × (run_from l.l l.src l.initial.notes (standing l.initial.stage l.initial.cursor l.initial.tally) ≡ run_from l.l l.src l.notes (standing l.stage l.cursor l.tally))

abbrev pub decreases-loop-line : goal.decreases-loop-line
decreases-loop-line l = length l.src - l.cursor.at
