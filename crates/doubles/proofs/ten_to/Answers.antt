-- The table computes to the doubles that are the powers of ten exactly.
use lib.Ieee.{of_bits}
use native.Mathlib.Omega.{arith}
use Rattle.doubles.proofs.Tens.{tens_from, table-exact}
use Rattle.doubles.proofs.ten_to.Goals as goal

pub returns : goal.returns
unfolding of_bits tens_from
returns c = table-exact c.args.k (omega arith)
