-- A cell as a double: document 02, "Cells as doubles".
use Rattle.std.specs.Prelude.{ℕ, ◌+◌, ◌-◌, ◌*◌, ◌%◌, ◌^◌, Bool, cond, ◌&&◌, ◌||◌, ltb, Float, Result, Ok, Err}
use Rattle.std.specs.Float.{binary64}
use Rattle.std.specs.Float.Ieee.{round}
use Rattle.decimal.specs.Decimal.{offset}
use Rattle.decimal.specs.declared.Decimal.{Decimal}
use Rattle.decimal.specs.declared.Cell.{Cell}
use Rattle.decimal.specs.declared.Cell.TheVariants.{Number, Missing}
use Rattle.doubles.specs.declared.CellDouble.TheVariants.{Double}
use Rattle.doubles.specs.declared.CellDouble.TheVariants as double
use Rattle.doubles.specs.declared.CellDouble.{CellDouble}

-- ---- the exact decimal: in size the fraction upper / lower. The power is kept with the offset added

abbrev pub upper : Decimal → ℕ
upper d = d.digits * 10 ^ (d.power - offset)

abbrev pub lower : Decimal → ℕ
lower d = 10 ^ (offset - d.power)

-- "Zero gives plus zero": a sign is a minus only before digits above 0
abbrev pub is_negative : Decimal → Bool
is_negative d = d.negative && ltb 0 d.digits

-- ---- "The double is the exact decimal rounded once": to the nearest double, and of two as near to the even one

unfoldable pub rounded : Decimal → Float
rounded d = round binary64 (is_negative d) (upper d) (lower d)

-- the digits that count: the last fifteen, as in a word of the row store. A number that is read has no more
abbrev pub counted : Decimal → Decimal
counted d = record { negative = d.negative; digits = d.digits % 10 ^ 15; power = d.power }

-- "24 exactly if the power is below −22 or above 22"
abbrev pub is_far : Decimal → Bool
is_far d = ltb d.power (offset - 22) || ltb (offset + 22) d.power

-- "Give each cell either as a double or as missing"; "a missing cell passes"
unfoldable pub double_of : Cell → Result CellDouble ℕ
double_of (Number d) = cond (is_far d) (Err 24) (Ok (Double (rounded (counted d))))
double_of Missing = Ok double.Missing
