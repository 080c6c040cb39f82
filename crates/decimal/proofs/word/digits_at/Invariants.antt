-- `decimal::digits_at`: the invariant is `Passed`, with one law for a zero, one for another digit and one for the end.
use Rattle.decimal.proofs.Parts.{Passed}
use Rattle.decimal.proofs.word.digits_at.Given as goal

abbrev pub invariant-loop-i : goal.invariant-loop-i
invariant-loop-i l = Passed l.w l.at l.number l.zeros l.read l.waiting l.i
