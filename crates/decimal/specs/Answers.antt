-- What the code's answers say: document 01's number or value for each case, also as one word; and a word of the row store as a cell.
use Rattle.std.specs.Prelude.{ℕ, ◌+◌, ◌-◌, ◌*◌, ◌/◌, ◌%◌, ◌^◌, ◌≡◌, Bool, cond, ◌⊎◌, eqb, ltb, Ok, Err, Result}
use Rattle.laws.specs.Said.{Said}
use Rattle.decimal.specs.Decimal.{missing_word, word_of, offset, ranged}
use Rattle.decimal.specs.declared.Decimal.{Decimal}
use Rattle.decimal.specs.declared.Cell.{Cell}
use Rattle.decimal.specs.declared.Cell.TheVariants.{Number, Missing}

-- the answer that says this

-- and what an answer says

-- what n says with the power high less low, which has the offset added: of n as s times ten to the z, where s has no trailing zero
abbrev pub Settles : Bool → ℕ → ℕ → ℕ → Result Decimal ℕ → Type 0
Settles minus n high low r =
    (s z : ℕ) → n ≡ s * 10 ^ z → (s ≡ 0) ⊎ (s % 10 ≡ 0 → ⊥) → r ≡ ranged minus s (z + high) (low + offset)

-- ---- an answer as one word

-- the words that no cell has, from below the missing cell's down
abbrev pub fault_word : ℕ → ℕ
fault_word n = missing_word - 1 - n

abbrev pub number_word : Said Decimal → ℕ
number_word (Ok d) = word_of (Number d)
number_word (Err n) = fault_word n

abbrev pub cell_word : Said Cell → ℕ
cell_word (Ok c) = word_of c
cell_word (Err n) = fault_word n

-- no number has a word from here on
abbrev pub past_numbers : ℕ
past_numbers = 2 ^ 63

-- the fault that a word tells; 0 of a cell's word
unfoldable pub fault_at : ℕ → ℕ
fault_at w = cond (ltb w past_numbers) 0 (cond (eqb w missing_word) 0 (missing_word - 1 - w))

-- ---- what a word of the row store holds

abbrev pub decimal_in : ℕ → Decimal
decimal_in w = record { negative = eqb (w % 2) 1; digits = w / 512; power = w / 2 % 256 }

unfoldable pub cell_in : ℕ → Cell
cell_in w = cond (eqb w missing_word) Missing (Number (decimal_in w))
