-- What every number that was read keeps: at most 15 digits, a power from −40 to 24, and no trailing zero; and a fault, that it is 11 or 12.
use Rattle.std.specs.Prelude.{ℕ, ◌+◌, ◌%◌, ◌^◌, ◌≤◌, ◌<◌, ◌≡◌, ◌⊎◌, false, Ok, Err}
use Rattle.laws.specs.Said.{Said}
use Rattle.decimal.specs.Decimal.{offset}
use Rattle.decimal.specs.declared.Decimal.{Decimal}
use Rattle.decimal.specs.declared.Cell.{Cell}
use Rattle.decimal.specs.declared.Cell.TheVariants.{Number, Missing}

-- the power is kept with its offset added
pub record Fine (d : Decimal) : Type 0 where
  pub digits : d.digits < 10 ^ 15
  pub power : d.power ≤ offset + 24

abbrev pub FineFault : ℕ → Type 0
FineFault n = (11 ≤ n) × (n ≤ 12)

abbrev pub FineNumber : Said Decimal → Type 0
FineNumber (Ok d) = Fine d
FineNumber (Err n) = FineFault n

abbrev pub FineCell : Cell → Type 0
FineCell (Number d) = Fine d
FineCell Missing = Unit {0}

abbrev pub FineRead : Said Cell → Type 0
FineRead (Ok c) = FineCell c
FineRead (Err n) = FineFault n

-- "no trailing zero; zero is 0 and power 0"
abbrev pub Reduced : Decimal → Type 0
Reduced d = (d ≡ record { negative = false; digits = 0; power = offset }) ⊎ (d.digits % 10 ≡ 0 → ⊥)

abbrev pub ReducedNumber : Said Decimal → Type 0
ReducedNumber (Ok d) = Reduced d
ReducedNumber (Err n) = Unit {0}

abbrev pub ReducedCell : Cell → Type 0
ReducedCell (Number d) = Reduced d
ReducedCell Missing = Unit {0}

abbrev pub ReducedRead : Said Cell → Type 0
ReducedRead (Ok c) = ReducedCell c
ReducedRead (Err n) = Unit {0}
