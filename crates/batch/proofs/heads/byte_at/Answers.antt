-- A byte is below 256.
use native.Mathlib.Omega.{arith}
use Rattle.batch.proofs.heads.byte_at.Goals as goal

pub overflow_cast-result : goal.overflow_cast-result
overflow_cast-result c = omega (arith, c.type_inv.head c.args.at)

pub returns-then-at-head : goal.returns-then-at-head
returns-then-at-head c = omega (arith, c.type_inv.head c.args.at)
