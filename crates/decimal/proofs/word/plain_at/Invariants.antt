-- `decimal::plain_at`: the invariant is `Goes`, with one law for a digit and one for the end.
use Prim.Native.Nat.{◌-◌}
use lib.ListN.{length}
use Rattle.decimal.proofs.Parts.{Goes}
use Rattle.decimal.proofs.word.plain_at.Given as goal

abbrev pub invariant-loop-i : goal.invariant-loop-i
invariant-loop-i l = Goes l.w l.at l.number l.read l.i

abbrev pub decreases-loop-i : goal.decreases-loop-i
decreases-loop-i l = length l.w - l.i
