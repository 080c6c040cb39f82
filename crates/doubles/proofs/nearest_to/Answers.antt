-- The size with its sign, which zero has not.
use native.Mathlib.Omega.{arith}
use Rattle.doubles.specs.Double.{counted}
use Rattle.doubles.proofs.Scaled.{below-zero, not_negative, at_zero}
use Rattle.doubles.proofs.nearest_to.Goals as goal

pub returns-then-digits-gt0 : goal.returns-then-digits-gt0
returns-then-digits-gt0 c = below-zero (counted _) _ c.size_of-size.ensures c.if-d.true (omega arith)

pub returns-else-digits-gt0 : goal.returns-else-digits-gt0
returns-else-digits-gt0 c = at_zero (counted _) _ c.size_of-size.ensures c.if-d.true (omega arith)

pub returns-else-d : goal.returns-else-d
returns-else-d c = not_negative (counted _) _ c.size_of-size.ensures c.if-d.false
