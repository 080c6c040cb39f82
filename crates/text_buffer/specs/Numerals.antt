-- Numbers as texts: digits, hexadecimal ones too, decimals with a power (the dump's cells, document 01's listing) and with a point.
use Rattle.std.specs.Prelude.{ℕ, zero, suc, ◌+◌, ◌-◌, ◌/◌, ◌%◌, ◌^◌, ◌<◌, ◌≡◌, List, [], ◌∷◌, ◌++◌, Bool, true, false, cond, ltb, eqb, length, take, drop, get_or, replicate}
use Prim.Native.Char.{code}
use Rattle.laws.specs.Bytes.{bytes}
use Rattle.decimal.specs.Decimal.{offset}
use Rattle.decimal.specs.declared.Decimal.{Decimal}
use Rattle.decimal.specs.declared.Cell.{Cell}
use Rattle.decimal.specs.declared.Cell.TheVariants.{Number, Missing}
use Rattle.text_buffer.specs.declared.numbers.Digits.{Digits}

-- ---- digits

-- the last digit of n
abbrev pub digit_of : ℕ → ℕ
digit_of n = code "0" + n % 10

-- the last digits of n, at most k, with no zero before them; then ds
unfoldable pub digits_from : ℕ → ℕ → List ℕ → List ℕ
digits_from zero n ds = ds
digits_from (suc k) n ds = cond (eqb (n / 10) 0) (digit_of n ∷ ds) (digits_from k (n / 10) (digit_of n ∷ ds))

-- every number below 10 ^ 20 has at most 20 digits
unfoldable pub numeral_of : ℕ → List ℕ
numeral_of n = digits_from 20 n []

-- a hexadecimal digit, of a number below sixteen
abbrev pub hex_digit : ℕ → ℕ
hex_digit d = get_or (bytes "0123456789abcdef") d 0

-- so many hexadecimal digits of n, the last ones, the highest first: the one that has k behind it, and those
unfoldable pub hexadecimal : ℕ → ℕ → List ℕ
hexadecimal zero n = []
hexadecimal (suc k) n = hex_digit (n / 16 ^ k % 16) ∷ hexadecimal k n

-- what the code keeps of a number's digits
pub record DigitsAre (n : ℕ) (r : Digits) : Type 0 where
  pub digits : drop r.first r.bytes ≡ numeral_of n
  pub first : r.first < 20
  pub room : length r.bytes ≡ 20

-- ---- decimals; a power is kept with its offset added

abbrev pub sign_text : Bool → List ℕ
sign_text true = bytes "-"
sign_text false = []

unfoldable pub power_text : ℕ → List ℕ
power_text p = cond (ltb p offset) (bytes "-" ++ numeral_of (offset - p)) (numeral_of (p - offset))

-- "as number `e` power": 8e-1
unfoldable pub decimal_text : Decimal → List ℕ
decimal_text d = sign_text d.negative ++ numeral_of d.digits ++ bytes "e" ++ power_text d.power

-- "or NA"
abbrev pub cell_text : Cell → List ℕ
cell_text (Number d) = decimal_text d
cell_text Missing = bytes "NA"

-- ---- written out: 0.8

-- digits with a point before the last k of them, and a digit before the point
unfoldable pub pointed : ℕ → List ℕ → List ℕ
pointed k ds =
    cond (ltb k (length ds)) (take (length ds - k) ds ++ bytes "." ++ drop (length ds - k) ds)
    (bytes "0." ++ replicate (k - length ds) (code "0") ++ ds)

-- in units of ten to a power, which has the offset added as the decimal's own has: 5e-12 is 5 in unit 28. Zero, which is kept with power 0, is 0 in each
unfoldable pub unit_text : ℕ → Decimal → List ℕ
unit_text unit d =
    cond (eqb d.digits 0) (bytes "0")
    (sign_text d.negative
    ++ cond (ltb d.power unit) (pointed (unit - d.power) (numeral_of d.digits)) (numeral_of d.digits ++ replicate (d.power - unit) (code "0")))

abbrev pub plain_text : Decimal → List ℕ
plain_text d = unit_text offset d
