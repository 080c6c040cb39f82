-- An answer as one word: it tells the fault, and the number comes back from it.
use Rattle.std.specs.Prelude.{Ok, Err}
use Prim.Native.Nat.{ℕ, ◌-◌, ◌≤◌, ◌<◌}
use mathlib.Core.Path.{◌≡◌, refl, ap, ◌∙◌}
use mathlib.Core.List.{List}
use native.Mathlib.Omega.{arith}
use borrow.Author.Tests.{ne_eqb, lt-ltb, le-ltb}
use Rattle.laws.specs.Said.{Said, fault_in, read_on}
use Rattle.laws.proofs.Tests.{cond_yes, cond_no}
use Rattle.decimal.specs.declared.Decimal.{Decimal}
use Rattle.decimal.specs.declared.Cell.{Cell}
use Rattle.decimal.specs.declared.Cell.TheVariants.{Number, Missing}
use Rattle.decimal.specs.Decimal.{number_of, given_cell, word_of, missing_word}
use Rattle.decimal.specs.Answers.{number_word, cell_word, fault_word, past_numbers, fault_at, decimal_in}
use Rattle.decimal.specs.Fine.{FineFault, FineNumber, FineRead}
use Rattle.decimal.proofs.Cells.{number_small, kept-decimal}

-- ---- the fault that a word tells

told-number : (d : Decimal) → FineNumber (Ok d) → fault_at (word_of (Number d)) ≡ 0
unfolding fault_at
told-number d f = cond_yes _ _ (lt-ltb (word_of (Number d)) past_numbers (number_small d f.digits (omega (arith, f.power))))

told-fault : (n : ℕ) → FineFault n → fault_at (fault_word n) ≡ n
unfolding fault_at
told-fault n f =
    let b : missing_word - 1 - (missing_word - 1 - n) ≡ n = omega (arith, f.1) in
    cond_no _ _ (le-ltb (fault_word n) past_numbers (omega (arith, f.1)))
    ∙ cond_no _ _ (ne_eqb (fault_word n) missing_word (λ z. omega (arith, f.1)))
    ∙ b

pub number-told : (x : Said Decimal) → FineNumber x → fault_at (number_word x) ≡ fault_in x
number-told (Ok d) f = told-number d f
number-told (Err n) f = told-fault n f

pub cell-told : (x : Said Cell) → FineRead x → fault_at (cell_word x) ≡ fault_in x
unfolding fault_at
cell-told (Ok (Number d)) f = told-number d f
cell-told (Ok Missing) f = refl
cell-told (Err n) f = told-fault n f

-- ---- a number from its word

pub number-value : (x : Said Decimal) {a : ℕ} → FineNumber x → a ≡ number_word x → a < past_numbers → Ok (decimal_in a) ≡ x
number-value (Ok d) f e h = ap (λ (b : ℕ). Ok (decimal_in b)) e ∙ ap Ok (kept-decimal d f.digits (omega (arith, f.power)))
number-value (Err n) f e h = absurd (omega (arith, f.1))

pub record Tells (a : ℕ) (x : Said Decimal) : Type 0 where
  pub below : a ≤ missing_word - 1
  pub byte : missing_word - 1 - a < 256
  pub same : Err (missing_word - 1 - a) ≡ x

pub number-wrong : (x : Said Decimal) {a : ℕ} → FineNumber x → a ≡ number_word x → past_numbers ≤ a → Tells a x
number-wrong (Ok d) f e h = absurd (omega (arith, number_small d f.digits (omega (arith, f.power))))
number-wrong (Err n) {a} f e h =
    let b : missing_word - 1 - a ≡ n = omega (arith, f.1) in
    record { below = omega (arith, f.1); byte = omega (arith, f.1); same = ap Err b }

-- ---- a word as a cell, from its word as a number

given-worded : (x : Said Decimal) → number_word x ≡ cell_word (read_on x (λ d. Ok (Number d)))
given-worded (Ok d) = refl
given-worded (Err n) = refl

pub cell-worded : (w : List ℕ) → number_word (number_of w) ≡ cell_word (given_cell w)
unfolding given_cell
cell-worded w = given-worded (number_of w)
