-- One record after another; the buffers keep their lengths.
use Prim.Native.Nat.{◌-◌, ◌≤◌}
use mathlib.Core.Path.{◌≡◌}
use lib.ListN.{length}
use Rattle.batch.proofs.main.Given as goal

abbrev pub invariant-loop-files : goal.invariant-loop-files
invariant-loop-files l =
    (l.files ≤ 1000000) × (131072 ≡ length l.src) × (32 ≡ length l.head)

abbrev pub decreases-loop-files : goal.decreases-loop-files
decreases-loop-files l =
    1000000 - l.files
