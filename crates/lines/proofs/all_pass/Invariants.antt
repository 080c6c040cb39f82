-- All pass so far, where `all` still says so.
use Rattle.std.proofs.Common.{◌≡◌, ◌<◌, ℕ, true, get_or}
use Rattle.lines.proofs.all_pass.Given as goal

abbrev pub invariant-loop-b : goal.invariant-loop-b
invariant-loop-b g l = l.all ≡ true → (k : ℕ) → k < l.b-index → goal.F-post g l.passes (get_or l.eight k 0) true
