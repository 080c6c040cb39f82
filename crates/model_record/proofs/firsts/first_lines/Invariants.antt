-- A fold over the lines (`first-fold`) that begins with nothing given; a line changes its own part.
use Prim.Native.Nat.{◌-◌}
use lib.ListN.{length}
use Rattle.lines_under.proofs.Folds.{Gathers}
use Rattle.model_record.specs.Firsts.{lines_over}
use Rattle.model_record.proofs.FirstLaws.{first-fold}
use Rattle.model_record.proofs.firsts.first_lines.Given as goal

abbrev pub invariant-loop-start : goal.invariant-loop-start
invariant-loop-start l = Gathers first-fold l.src l.initial.d l.d (lines_over l.initial.marks l.initial.comp l.initial.split l.initial.levels) (lines_over l.marks l.comp l.split l.levels)

abbrev pub decreases-loop-start : goal.decreases-loop-start
decreases-loop-start l = length l.src - l.d.at
