-- Behind the rows so far the lines say what they say from the first of them on.
use Prim.Native.Nat.{◌-◌}
use lib.ListN.{length}
use Rattle.file_answer.specs.Rows.{seen_rows, PassedIs}
use Rattle.file_answer.proofs.rows.pass_rows.Given as goal

abbrev pub invariant-loop-line : goal.invariant-loop-line
invariant-loop-line l =
    PassedIs l.src l.initial.d (seen_rows l.initial.seen l.initial.last l.initial.head l.initial.tail) l.n (record { cursor = l.d; rows = seen_rows l.seen l.last l.head l.tail; count = l.count })

abbrev pub decreases-loop-line : goal.decreases-loop-line
decreases-loop-line l = length l.src - l.d.at
