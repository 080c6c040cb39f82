-- All bytes before i pass.
use Rattle.std.proofs.Common.{◌+◌, ◌-◌, ◌≤◌, ◌<◌, ℕ, true, get_or, length}
use Rattle.lines.proofs.skip_eights.Given as goal

abbrev pub invariant-loop-eight : goal.invariant-loop-eight
invariant-loop-eight g l = record {
  from : l.at ≤ l.i;
  within : l.i ≤ length l.s;
  passed : (k : ℕ) → l.at + k < l.i → goal.F-post g l.passes (get_or l.s (l.at + k) 0) true;
}

abbrev pub decreases-loop-eight : goal.decreases-loop-eight
decreases-loop-eight g l = length l.s - l.i
