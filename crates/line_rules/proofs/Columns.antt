-- Every fault of a word is 10, 11 or 12, so a column is told of it.
use Rattle.std.specs.Prelude.{Ok, Err, Option, None, Some}
use Prim.Native.Nat.{ℕ}
use Prim.Native.Char.{code}
use mathlib.Core.List.{List, [], ◌∷◌}
use mathlib.Core.Bool.{Bool}
use native.Mathlib.Omega.{arith}
use lib.Dec.{eqb}
use Rattle.laws.specs.Lists.{front, after, among, other}
use Rattle.laws.specs.Said.{Said, fault_in, or_fault}
use Rattle.laws.proofs.Tests.{cond-all}
use Rattle.decimal.specs.Decimal.{number_of, given_cell, cell_of, is_missing}
use Rattle.decimal.specs.Fine.{FineNumber, FineRead}
use Rattle.decimal.specs.declared.Decimal.{Decimal}
use Rattle.decimal.specs.declared.Cell.{Cell}
use Rattle.decimal.proofs.Fine.{number-fine, given-fine, cell-fine}
use Rattle.records.proofs.Columns.{Columned, Columns}
use Rattle.line_rules.specs.Fields.{passing, ratio_of, slope_from, slope_of, slope_or_missing}

fine-number : (r : Said Decimal) → FineNumber r → Columns r
fine-number (Ok d) h = tt
fine-number (Err n) h = (omega (arith, h.0), h.1)

fine-cell : (r : Said Cell) → FineRead r → Columns r
fine-cell (Ok c) h = tt
fine-cell (Err n) h = (omega (arith, h.0), h.1)

pub number-columns : (w : List ℕ) → Columns (number_of w)
number-columns w = fine-number (number_of w) (number-fine w)

pub given-columns : (w : List ℕ) → Columns (given_cell w)
given-columns w = fine-cell (given_cell w) (given-fine w)

pub cell-columns : (w : List ℕ) → Columns (cell_of w)
cell-columns w = fine-cell (cell_of w) (cell-fine w)

pub passing-columns : (p : List ℕ → Bool) (w : List ℕ) → Columns (passing p w)
unfolding passing
passing-columns p w = cond-all Columns (p w) (Ok w) (Err 10) (λ h. tt) (λ h. (omega arith, omega arith))

pub or-columns : {A : Type 0} (o : Option A) → Columns (or_fault 10 o)
or-columns None = (omega arith, omega arith)
or-columns (Some a) = tt

-- ---- a ramp's words

ratio-columns : (a b : Said Decimal) → Columns a → Columns b → Columns (ratio_of a b)
ratio-columns (Ok d) (Ok e) h k = tt
ratio-columns (Ok d) (Err n) h k = k
ratio-columns (Err n) b h k = cond-all Columned (eqb (fault_in b) 11) 11 n (λ e. (omega arith, omega arith)) (λ e. h)

from-columns : (before behind : List ℕ) → Columns (slope_from before behind)
unfolding slope_from
from-columns before [] = (omega arith, omega arith)
from-columns before (slash ∷ behind) =
    cond-all Columns (among (code "/") behind) (Err 11) _ (λ h. (omega arith, omega arith))
    (λ h. ratio-columns (number_of before) (number_of behind) (number-columns before) (number-columns behind))

pub slope-columns : (w : List ℕ) → Columns (slope_of w)
unfolding slope_of
slope-columns w = from-columns (front (other (code "/")) w) (after (other (code "/")) w)

pub missing-columns : (w : List ℕ) → Columns (slope_or_missing w)
unfolding slope_or_missing
missing-columns w = cond-all Columns (is_missing w) _ (slope_of w) (λ h. tt) (λ h. slope-columns w)
