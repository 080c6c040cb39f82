-- `decimal::settle`: the invariant is `Left`, with one law for a turn, and one for the end.
use Rattle.decimal.proofs.Settled.{Left}
use Rattle.decimal.proofs.settle.Given as goal

abbrev pub invariant-loop-digits : goal.invariant-loop-digits
invariant-loop-digits l = Left l.number l.high l.digits l.power

abbrev pub decreases-loop-digits : goal.decreases-loop-digits
decreases-loop-digits l = l.digits
