-- What a word says as a cell, from what it says as a number.
use Rattle.std.specs.Prelude.{Ok, Result}
use Prim.Native.Nat.{ℕ}
use mathlib.Core.Path.{◌≡◌, ap}
use mathlib.Core.List.{List}
use Rattle.laws.specs.Said.{Said, read_on}
use Rattle.decimal.specs.Decimal.{number_of, given_cell}
use Rattle.decimal.specs.declared.Decimal.{Decimal}
use Rattle.decimal.specs.declared.Cell.TheVariants.{Number}

-- a word as a cell, from what it says as a number
pub cell-from : (w : List ℕ) (r : Result Decimal ℕ) → r ≡ number_of w → read_on r (λ d. Ok (Number d)) ≡ given_cell w
unfolding given_cell
cell-from w r e = ap (λ (x : Said Decimal). read_on x (λ d. Ok (Number d))) e
