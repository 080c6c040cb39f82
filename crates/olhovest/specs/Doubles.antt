-- What the functions for C answer and leave of cells as doubles.
use Rattle.std.specs.Prelude.{ℕ, suc, List, [], ◌∷◌, map, Float, set, Result, Ok, Err, Option, Some, None}
use Rattle.decimal.specs.declared.Cell.{Cell}
use Rattle.doubles.specs.Double.{double_of}
use Rattle.doubles.specs.declared.CellDouble.TheVariants.{Double, Missing}
use Rattle.doubles.specs.declared.CellDouble.{CellDouble}
use Rattle.records.specs.Cells.{row_cells}
use Rattle.records.specs.declared.Row.{Row}

-- no fault has this number
abbrev pub not_given : ℕ
not_given = 255

-- 0, the fault, or that the cell is missing
abbrev pub double_number : Result CellDouble ℕ → ℕ
double_number (Ok (Double x)) = 0
double_number (Ok Missing) = not_given
double_number (Err n) = n

-- the double, or what was there before
abbrev pub double_left : Result CellDouble ℕ → Float → Float
double_left (Ok (Double x)) before = x
double_left (Ok Missing) before = before
double_left (Err n) before = before

-- ---- the cells of a row

abbrev pub numbers_of : List Cell → List ℕ
numbers_of cs = map (λ c. double_number (double_of c)) cs

-- the double at its place, or what was there before
abbrev pub value_put : Result CellDouble ℕ → ℕ → List Float → List Float
value_put (Ok (Double x)) i vs = set vs i x
value_put (Ok Missing) i vs = vs
value_put (Err n) i vs = vs

-- the same of cells from a place on
abbrev pub values_from : ℕ → List Cell → List Float → List Float
values_from i [] vs = vs
values_from i (c ∷ cs) vs = values_from (suc i) cs (value_put (double_of c) i vs)

-- all four, or what was there before
abbrev pub answers_left : Option Row → List ℕ → List ℕ
answers_left (Some r) before = numbers_of (row_cells r)
answers_left None before = before

abbrev pub values_left : Option Row → List Float → List Float
values_left (Some r) before = values_from 0 (row_cells r) before
values_left None before = before
