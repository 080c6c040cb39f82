-- The faults from this line on are those from the first on: `line_check` says how a line hands on.
use Prim.Native.Nat.{◌+◌, ◌-◌, ◌≤◌}
use mathlib.Core.Path.{◌≡◌}
use lib.ListN.{length, drop}
use Rattle.lines.specs.Lines.{lines_of, fault_from, bytes_fault}
use Rattle.lines.proofs.check_bytes.Given as goal

abbrev pub invariant-loop-at : goal.invariant-loop-at
invariant-loop-at l = (l.at ≤ length l.s) × (l.line ≤ l.at + 1) × (fault_from l.line (lines_of (drop l.at l.s)) ≡ bytes_fault l.s)

abbrev pub decreases-loop-at : goal.decreases-loop-at
decreases-loop-at l = length l.s - l.at
