-- Cells: NA in any letter case, and a cell that comes back from its word.
use Prim.Native.Nat.{ℕ, ◌+◌, ◌*◌, ◌/◌, ◌%◌, ◌^◌, ◌≤◌, ◌<◌}
use Prim.Native.Char.{code}
use mathlib.Core.Path.{◌≡◌, refl, ap, ◌∙◌}
use mathlib.Core.List.{List, [], ◌∷◌}
use mathlib.Core.Bool.{Bool, true, false, ◌&&◌, and-true, and-false}
use mathlib.Core.Logic.{◌⊎◌}
use native.Mathlib.Nat.{mod-eq_of_lt, mul-add-mod_self_right}
use native.Mathlib.Omega.{arith}
use lib.Dec.{eqb}
use lib.ListN.{length, get_or}
use borrow.Author.Tests.{eq-eqb, ne_eqb}
use Rattle.laws.specs.Bytes.{capital}
use Rattle.laws.specs.Lists.{eqs}
use Rattle.laws.proofs.Tests.{cond_no, and_both, and_left, and_right}
use Rattle.decimal.specs.declared.Decimal.{Decimal}
use Rattle.decimal.specs.declared.Cell.{Cell}
use Rattle.decimal.specs.declared.Cell.TheVariants.{Number, Missing}
use Rattle.decimal.specs.Decimal.{is_missing, word_of, missing_word}
use Rattle.decimal.specs.Parts.{sign_bit}
use Rattle.decimal.specs.Answers.{past_numbers, decimal_in, cell_in}
use Rattle.decimal.specs.Fine.{FineCell}
use Rattle.laws.proofs.Bytes.{capital-yes, capital-only}

-- ---- NA

-- only two bytes can be NA
pub missing-other : (w : List ℕ) → (length w ≡ 2 → ⊥) → is_missing w ≡ false
unfolding is_missing eqs
missing-other [] h = refl
missing-other (a ∷ []) h = and-false (eqb (capital a) 78)
missing-other (a ∷ b ∷ []) h = absurd (h (omega arith))
missing-other (a ∷ b ∷ x ∷ xs) h = and_right (eqb (capital a) 78) _ (and-false (eqb (capital b) 65))

missing-two : (w : List ℕ) → length w ≡ 2 → is_missing w ≡ (eqb (capital (get_or w 0 0)) (code "N") && eqb (capital (get_or w 1 0)) (code "A"))
unfolding is_missing eqs
missing-two [] h = absurd (omega arith)
missing-two (a ∷ []) h = absurd (omega arith)
missing-two (a ∷ b ∷ []) h = ap (λ (t : Bool). eqb (capital a) 78 && t) (and-true (eqb (capital b) 65))
missing-two (a ∷ b ∷ x ∷ xs) h = absurd (omega arith)

module _ (w : List ℕ) (h : length w ≡ 2) where
  pub missing-yes : (get_or w 0 0 ≡ code "N") ⊎ (get_or w 0 0 ≡ code "n") → (get_or w 1 0 ≡ code "A") ⊎ (get_or w 1 0 ≡ code "a") → is_missing w ≡ true
  missing-yes n a =
      missing-two w h
      ∙ and_both _ _
      (eq-eqb _ 78 (capital-yes (get_or w 0 0) 78 (omega arith) (omega arith) n))
      (eq-eqb _ 65 (capital-yes (get_or w 1 0) 65 (omega arith) (omega arith) a))

  pub missing-first : ((get_or w 0 0 ≡ code "N") ⊎ (get_or w 0 0 ≡ code "n") → ⊥) → is_missing w ≡ false
  missing-first n =
      missing-two w h ∙ and_left _ _ (ne_eqb _ 78 (λ e. n (capital-only (get_or w 0 0) 78 (omega arith) (omega arith) e)))

  pub missing-second : ((get_or w 1 0 ≡ code "A") ⊎ (get_or w 1 0 ≡ code "a") → ⊥) → is_missing w ≡ false
  missing-second a =
      missing-two w h ∙ and_right (eqb (capital (get_or w 0 0)) 78) _ (ne_eqb _ 65 (λ e. a (capital-only (get_or w 1 0) 65 (omega arith) (omega arith) e)))

-- ---- a cell comes back from its word

pub bit_le : (t : Bool) → sign_bit t ≤ 1
bit_le true = omega arith
bit_le false = omega arith

bit-back : (t : Bool) → eqb (sign_bit t) 1 ≡ t
bit-back true = refl
bit-back false = refl

-- the word's power, in plain numbers
power-back : (n p b w : ℕ) → p < 256 → b ≤ 1 → w ≡ n * 512 + p * 2 + b → w / 2 % 256 ≡ p
power-back n p b w h k e =
    let q : w / 2 ≡ n * 256 + p = omega arith in
    let r : w / 2 % 256 ≡ (n * 256 + p) % 256 = ap (λ (x : ℕ). x % 256) q in
    r ∙ mul-add-mod_self_right n 256 p ∙ mod-eq_of_lt h

abbrev decimal_by : Bool → ℕ → ℕ → Decimal
decimal_by negative digits power = record { negative = negative; digits = digits; power = power }

module _ (d : Decimal) (h : d.digits < 10 ^ 15) (k : d.power < 256) where
  pub number_small : word_of (Number d) < past_numbers
  number_small =
      let m : d.digits % 10 ^ 15 ≡ d.digits = mod-eq_of_lt h in
      omega (arith, bit_le d.negative)

  pub kept-decimal : decimal_in (word_of (Number d)) ≡ d
  kept-decimal =
      let w = word_of (Number d) in
      let b = bit_le d.negative in
      let m : d.digits % 10 ^ 15 ≡ d.digits = mod-eq_of_lt h in
      let e : w ≡ d.digits * 512 + d.power * 2 + sign_bit d.negative = ap (λ (n : ℕ). n * 512 + d.power * 2 + sign_bit d.negative) m in
      let n : w % 2 ≡ sign_bit d.negative = omega arith in
      let g : w / 512 ≡ d.digits = omega arith in
      ap (λ (x : Bool). decimal_by x (w / 512) (w / 2 % 256)) (ap (λ (x : ℕ). eqb x 1) n ∙ bit-back d.negative)
      ∙ ap (λ (x : ℕ). decimal_by d.negative x (w / 2 % 256)) g
      ∙ ap (λ (x : ℕ). decimal_by d.negative d.digits x) (power-back d.digits d.power (sign_bit d.negative) w k b e)

  pub kept-number : cell_in (word_of (Number d)) ≡ Number d
  unfolding cell_in
  kept-number = cond_no Missing _ (ne_eqb (word_of (Number d)) missing_word (λ z. omega (arith, number_small))) ∙ ap Number kept-decimal

pub kept : (c : Cell) → FineCell c → cell_in (word_of c) ≡ c
unfolding cell_in
kept (Number d) f = kept-number d f.digits (omega (arith, f.power))
kept Missing f = refl
