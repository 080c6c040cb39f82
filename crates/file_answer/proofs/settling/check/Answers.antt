-- The answer by `outlined`.
use native.Mathlib.Omega.{arith}
use Rattle.file_answer.proofs.settling.check.Goals as goal

pub outlined-requires : goal.outlined-requires
outlined-requires c = omega arith

pub returns : goal.returns
returns c = c.outlined.ensures.answer
