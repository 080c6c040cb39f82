-- What the double of a cell is worth: "State the distance to the exact value over whole numbers".
use Rattle.std.specs.Prelude.{ℕ, ◌+◌, ◌-◌, ◌*◌, ◌^◌, ◌≤◌, ◌<◌, ◌≡◌, ◌⊎◌, Bool, false, cond, T, ℤ, pos, Float, Result, Ok, Err}
use Rattle.std.specs.Bool.{beq}
use Rattle.std.specs.Float.{nan, inf, fin, Format, binary64}
use Rattle.std.specs.Float.Ieee.{up, down, fits}
use Rattle.decimal.specs.Decimal.{offset}
use Rattle.decimal.specs.declared.Decimal.{Decimal}
use Rattle.decimal.specs.declared.Cell.{Cell}
use Rattle.decimal.specs.declared.Cell.TheVariants.{Number, Missing}
use Rattle.doubles.specs.Double.{upper, lower, is_negative, counted}
use Rattle.doubles.specs.declared.CellDouble.TheVariants.{Double}
use Rattle.doubles.specs.declared.CellDouble.TheVariants as double
use Rattle.doubles.specs.declared.CellDouble.{CellDouble}

-- |a - b|
abbrev pub gap : ℕ → ℕ → ℕ
gap a b = (a - b) + (b - a)

-- |±a - ±b|, with the signs s and t
abbrev pub apart : Bool → ℕ → Bool → ℕ → ℕ
apart s a t b = cond (beq s t) (gap a b) (a + b)

-- x is finite, has the sign s, and its size m * 2 ^ e lies within a p-th part of a / c around a / c. 2 ^ e is the fraction up e / down e; with the
-- denominators multiplied out: |m * up e * c - a * down e| * p ≤ a * down e
abbrev pub Within : ℕ → Float → Bool → ℕ → ℕ → Type 0
Within p nan s a c = ⊥
Within p (inf t) s a c = ⊥
Within p (fin t m e) s a c = (t ≡ s) × (gap (m * up e * c) (a * down e) * p ≤ a * down e)

-- no value n * 2 ^ g of the format f, of either sign, is closer to ±a / c than x
abbrev pub Closest : Format → Float → Bool → ℕ → ℕ → Type 0
Closest f nan s a c = ⊥
Closest f (inf t) s a c = ⊥
Closest f (fin t m e) s a c =
    (u : Bool) (n : ℕ) (g : ℤ) → T (fits f (fin u n g))
    → apart t (m * up e * c) s (a * down e) * down g ≤ apart u (n * up g * c) s (a * down g) * down e

abbrev pub plus_zero : Float
plus_zero = fin false 0 (pos 0)

-- what is worth saying of the double of a decimal
pub record Near (d : Decimal) (x : Float) : Type 0 where
  pub within : Within (2 ^ 53) x (is_negative d) (upper d) (lower d)
  pub closest : Closest binary64 x (is_negative d) (upper d) (lower d)
  -- "Zero gives plus zero"
  pub zero : d.digits ≡ 0 → x ≡ plus_zero

-- what is worth saying of the answer to a cell
abbrev pub Faithful : Cell → Result CellDouble ℕ → Type 0
Faithful Missing (Ok double.Missing) = Unit {0}
Faithful Missing (Ok (Double x)) = ⊥
Faithful Missing (Err n) = ⊥
Faithful (Number d) (Ok double.Missing) = ⊥
Faithful (Number d) (Ok (Double x)) = (offset ≤ d.power + 22) × (d.power ≤ offset + 22) × Near d x
Faithful (Number d) (Err n) = (n ≡ 24) × ((d.power + 22 < offset) ⊎ (offset + 22 < d.power))

-- a cell with the digits that count
abbrev pub counted_cell : Cell → Cell
counted_cell (Number d) = Number (counted d)
counted_cell Missing = Missing

-- none is left out
abbrev pub AllCount : Cell → Type 0
AllCount c = counted_cell c ≡ c
