-- Cells and their doubles, bit by bit, as document 02's readings list them: computed.
use Rattle.std.specs.Prelude.{ℕ, Result, Ok, Err}
use mathlib.Core.Path.{◌≡◌, refl}
use mathlib.Core.Bool.{true, false}
use mathlib.Core.List.{List, [], ◌∷◌, map}
use lib.Ieee.{binary64, round, of_bits}
use Rattle.decimal.specs.declared.Cell.{Cell}
use Rattle.decimal.specs.declared.Cell.TheVariants.{Number, Missing}
use Rattle.doubles.specs.Double.{rounded, double_of}
use Rattle.doubles.specs.declared.CellDouble.TheVariants.{Double}
use Rattle.doubles.specs.declared.CellDouble.TheVariants as double
use Rattle.doubles.specs.declared.CellDouble.{CellDouble}

-- 0e0, 8e-1, -25e-2, 33e-1, 1e22, 1e-22, a tie, the largest and the smallest of fifteen digits, 1e23, 1e-23, NA
abbrev cells : List Cell
cells =
    Number (record { negative = false; digits = 0; power = 40 })
    ∷ Number (record { negative = false; digits = 8; power = 39 })
    ∷ Number (record { negative = true; digits = 25; power = 38 })
    ∷ Number (record { negative = false; digits = 33; power = 39 })
    ∷ Number (record { negative = false; digits = 1; power = 62 })
    ∷ Number (record { negative = false; digits = 1; power = 18 })
    ∷ Number (record { negative = false; digits = 360287970189641; power = 42 })
    ∷ Number (record { negative = false; digits = 999999999999999; power = 62 })
    ∷ Number (record { negative = true; digits = 999999999999999; power = 18 })
    ∷ Number (record { negative = false; digits = 1; power = 63 })
    ∷ Number (record { negative = false; digits = 1; power = 17 })
    ∷ Missing
    ∷ []

abbrev answers : List (Result CellDouble ℕ)
answers =
    Ok (Double (of_bits binary64 0x0000_0000_0000_0000))
    ∷ Ok (Double (of_bits binary64 0x3fe9_9999_9999_999a))
    ∷ Ok (Double (of_bits binary64 0xbfd0_0000_0000_0000))
    ∷ Ok (Double (of_bits binary64 0x400a_6666_6666_6666))
    ∷ Ok (Double (of_bits binary64 0x4480_f0cf_064d_d592))
    ∷ Ok (Double (of_bits binary64 0x3b5e_3920_1017_5ee6))
    ∷ Ok (Double (of_bits binary64 0x4360_0000_0000_0010))
    ∷ Ok (Double (of_bits binary64 0x479e_17b8_4357_6913))
    ∷ Ok (Double (of_bits binary64 0xbe7a_d7f2_9abc_af41))
    ∷ Err 24
    ∷ Err 24
    ∷ Ok double.Missing
    ∷ []

pub computed : map double_of cells ≡ answers
unfolding double_of rounded round of_bits
computed = refl
