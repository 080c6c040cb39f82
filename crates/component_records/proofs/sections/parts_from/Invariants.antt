-- A fold over the keywords (`part-fold`): what is held follows from the first keyword on.
use Prim.Native.Nat.{◌-◌, ◌≤◌}
use lib.ListN.{length}
use Rattle.cut_lines.specs.Cursors.{Placed}
use Rattle.lines_under.proofs.Keyed.{Follows}
use Rattle.component_records.specs.Views.{no_parts}
use Rattle.component_records.proofs.Keys.{part-fold}
use Rattle.component_records.proofs.sections.parts_from.Given as goal

abbrev pub invariant-loop-key : goal.invariant-loop-key
invariant-loop-key l = Placed l.src l.d × (l.parts.pins ≤ l.d.at) × Follows part-fold l.src l.initial.d l.d no_parts l.parts

abbrev pub decreases-loop-key : goal.decreases-loop-key
decreases-loop-key l = length l.src - l.d.at
