-- `stands-within`, or `stands-end` where there is nothing more.
use native.Mathlib.Omega.{arith}
use Rattle.from_notes.proofs.Marks.{stands-within, stands-end}
use Rattle.from_notes.proofs.places.cursor_at.Goals as goal

pub returns-then-at-src : goal.returns-then-at-src
returns-then-at-src c = rw c.mark_of-mark.ensures (stands-within c.args.src.now c.args.at c.args.comment (λ i. omega (arith, c.type_inv.src i)) c.if-at-src.true)

pub returns : goal.returns
returns c = stands-end c.args.src.now c.args.at c.args.comment c.if-at-src.false _
