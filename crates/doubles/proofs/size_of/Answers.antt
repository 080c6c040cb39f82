-- The cast loses nothing, and the one operation rounds the exact fraction.
use native.Mathlib.Omega.{arith}
use Rattle.doubles.proofs.Scaled.{divided, multiplied}
use Rattle.doubles.proofs.size_of.Goals as goal

pub returns-then-power-lt40 : goal.returns-then-power-lt40
returns-then-power-lt40 c = divided _ _ (omega arith) _ (omega arith) c.ten_to.ensures

pub returns : goal.returns
returns c = multiplied _ _ (omega arith) _ (omega arith) c.ten_to-2.ensures
