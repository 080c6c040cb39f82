-- A fold over the lines (`ramp-fold`) that begins with nothing given; a line changes its own part.
use Prim.Native.Nat.{◌-◌}
use lib.ListN.{length}
use Rattle.lines_under.proofs.Folds.{Gathers}
use Rattle.model_record.specs.Ramps.{ramp_over}
use Rattle.model_record.proofs.RampLaws.{ramp-fold}
use Rattle.model_record.proofs.ramps.ramp_lines.Given as goal

abbrev pub invariant-loop-start : goal.invariant-loop-start
invariant-loop-start l = Gathers ramp-fold l.src l.initial.d l.d (ramp_over l.initial.rise l.initial.fall l.initial.load) (ramp_over l.rise l.fall l.load)

abbrev pub decreases-loop-start : goal.decreases-loop-start
decreases-loop-start l = length l.src - l.d.at
