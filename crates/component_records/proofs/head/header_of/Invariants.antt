-- A fold over the keywords (`head-fold`): what is held follows from the first keyword on.
use Prim.Native.Nat.{◌-◌}
use lib.ListN.{length}
use Rattle.cut_lines.specs.Cursors.{Placed}
use Rattle.lines_under.proofs.Keyed.{Follows}
use Rattle.component_records.specs.Views.{no_header}
use Rattle.component_records.proofs.Keys.{head-fold}
use Rattle.component_records.proofs.head.header_of.Given as goal

abbrev pub invariant-loop-key : goal.invariant-loop-key
invariant-loop-key l = Placed l.src l.d × Follows head-fold l.src l.initial.d l.d no_header l.header

abbrev pub decreases-loop-key : goal.decreases-loop-key
decreases-loop-key l = length l.src - l.d.at
