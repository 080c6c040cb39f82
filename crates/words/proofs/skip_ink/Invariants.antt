-- The front from i on is the front from the start: `front-more` at a turn, `front-stop` and `front-end` at the ways out.
use Prim.Native.Nat.{◌+◌, ◌-◌, ◌≤◌}
use mathlib.Core.Path.{◌≡◌}
use lib.ListN.{length, drop}
use Rattle.laws.specs.Lists.{front}
use Rattle.words.specs.Words.{is_ink}
use Rattle.words.proofs.skip_ink.Given as goal

abbrev pub invariant-loop-i : goal.invariant-loop-i
invariant-loop-i l = ((l.at ≤ l.i) × (l.i ≤ length l.s)) × (l.i + length (front is_ink (drop l.i l.s)) ≡ l.at + length (front is_ink (drop l.at l.s)))

abbrev pub decreases-loop-i : goal.decreases-loop-i
decreases-loop-i l = length l.s - l.i
