-- Trailing zeros: each turn puts one into the power, and what is left is the only number without them; and so `number_of` of a short word.
use Rattle.std.specs.Prelude.{Result, Ok}
use Prim.Native.Nat.{ℕ, zero, suc, ◌+◌, ◌-◌, ◌*◌, ◌/◌, ◌%◌, ◌^◌, ◌≤◌, ◌<◌}
use mathlib.Core.Path.{◌≡◌, refl, sym, ap, ◌∙◌}
use mathlib.Core.Bool.{Bool, true, false, cond}
use mathlib.Core.List.{List}
use mathlib.Core.Logic.{⊎_elim}
use native.Mathlib.Nat.{mul-one, zero-mul, mul_assoc, le-mul_of_pos_right, min-eq_left, pow-suc, pow-succ'}
use native.Mathlib.Omega.{arith}
use lib.ListN.{length, drop}
use Rattle.laws.specs.Bytes.{is_letter}
use Rattle.laws.specs.Lists.{all}
use Rattle.laws.proofs.Tests.{by_order}
use Rattle.decimal.specs.declared.word.Sign.{Sign}
use Rattle.decimal.specs.declared.word.Mantissa.{Mantissa}
use Rattle.decimal.specs.declared.word.Exponent.{Exponent}
use Rattle.decimal.specs.Decimal.{ranged, offset, number_of, figures, numeral, significant, zeros_cut, scale_up, scale_down}
use Rattle.decimal.specs.Parts.{cap, short, StandsFor, SignRead, ShortRead, ExponentRead}
use Rattle.decimal.specs.Answers.{Settles}
use Rattle.decimal.specs.declared.Decimal.{Decimal}
use Rattle.decimal.proofs.Capped.{ten-pos}
use Rattle.decimal.proofs.Numerals.{significant-numeral}
use Rattle.decimal.proofs.Parts.{exponent-letters}
use Rattle.decimal.proofs.Fine.{significant-ends, figures-all}
use Rattle.decimal.proofs.Results.{ranged-zero, ranged-shift, scale-up-small, scale-down-small, number-good}

ten-out : (n k : ℕ) → n * 10 ^ suc k ≡ n * 10 ^ k * 10
ten-out n k = ap (λ (x : ℕ). n * x) (pow-suc 10 k) ∙ sym (mul_assoc n (10 ^ k) 10)

-- however the zeros were cut
reduced-same : (n k s z : ℕ) → n * 10 ^ k ≡ s * 10 ^ z → (n % 10 ≡ 0 → ⊥) → (s % 10 ≡ 0 → ⊥) → (n ≡ s) × (k ≡ z)
reduced-same n zero s zero e h j = (sym (mul-one n) ∙ e ∙ mul-one s, refl)
reduced-same n zero s (suc z) e h j =
    let t : n ≡ s * 10 ^ z * 10 = sym (mul-one n) ∙ e ∙ ten-out s z in
    absurd (h (omega arith))
reduced-same n (suc k) s zero e h j =
    let t : s ≡ n * 10 ^ k * 10 = sym (mul-one s) ∙ sym e ∙ ten-out n k in
    absurd (j (omega arith))
reduced-same n (suc k) s (suc z) e h j =
    let t : n * 10 ^ k * 10 ≡ s * 10 ^ z * 10 = sym (ten-out n k) ∙ e ∙ ten-out s z in
    let g = reduced-same n k s z (omega arith) h j in
    (g.0, ap suc g.1)

-- n as the digits and the power that are left, where the power was high at first
pub record Left (n high digits power : ℕ) : Type 0 where
  pub some : 0 < digits
  pub rises : high ≤ power
  pub bound : digits + power ≤ n + high
  pub number : n ≡ digits * 10 ^ (power - high)

module _ (n high : ℕ) where
  pub left-none : (n ≡ 0 → ⊥) → Left n high n high
  left-none h =
      let e : high - high ≡ 0 = omega arith in
      record { some = omega arith; rises = omega arith; bound = omega arith; number = sym (ap (λ (k : ℕ). n * 10 ^ k) e ∙ mul-one n) }

  module _ (digits power : ℕ) (l : Left n high digits power) where
    pub left-turn : digits % 10 ≡ 0 → Left n high (digits / 10) (power + 1)
    left-turn h =
        let q : digits ≡ digits / 10 * 10 = omega arith in
        let e : power + 1 - high ≡ suc (power - high) = omega (arith, l.rises) in
        record {
          some = omega (arith, l.some, q);
          rises = omega (arith, l.rises);
          bound = omega (arith, l.some, l.bound, q);
          number =
              l.number
              ∙ ap (λ (x : ℕ). x * 10 ^ (power - high)) q
              ∙ mul_assoc (digits / 10) 10 (10 ^ (power - high))
              ∙ ap (λ (x : ℕ). digits / 10 * x) (sym (pow-succ' 10 (power - high)))
              ∙ ap (λ (k : ℕ). digits / 10 * 10 ^ k) (sym e);
        }

    pub left_end : (minus : Bool) (low : ℕ) (r : Result Decimal ℕ) → (n ≡ 0 → ⊥) → (digits % 10 ≡ 0 → ⊥)
        → r ≡ ranged minus digits power (low + offset) → Settles minus n high low r
    left_end minus low r h j e s z q f =
        ⊎_elim
        (λ k. absurd (h (q ∙ ap (λ (x : ℕ). x * 10 ^ z) k ∙ zero-mul (10 ^ z))))
        (λ k.
        let g = reduced-same digits (power - high) s z (sym l.number ∙ q) j k in
        let p : power ≡ z + high = omega (arith, l.rises, g.1) in
        e
        ∙ ap (λ (x : ℕ). ranged minus x power (low + offset)) g.0
        ∙ ap (λ (x : ℕ). ranged minus s x (low + offset)) p)
        f

pub settle-zero : (minus : Bool) (n high low : ℕ) → n ≡ 0 → Settles minus n high low (Ok (record { negative = false; digits = 0; power = 40 }))
settle-zero minus n high low h s z q f =
    by_order s 0
    (λ k. let e : s ≡ 0 = omega arith in (sym (ranged-zero minus s (z + high) (low + offset) e)))
    (λ k. absurd (omega (arith, le-mul_of_pos_right s (ten-pos z), q, h)))

-- ---- `number_of` of a short word

zeros-le : (ds : List ℕ) → zeros_cut ds ≤ length ds
unfolding zeros_cut
zeros-le ds = omega arith

module _ (w : List ℕ) (few : length w ≤ short) (s : Sign) (hs : SignRead w 0 s) (m : Mantissa) (hm : ShortRead w (drop s.at w) m) where
  abbrev found : List ℕ
  found = figures (drop s.at w)

  whole : m.number ≡ numeral (significant found) * 10 ^ zeros_cut found
  whole = hm.number ∙ significant-numeral found

  -- nothing is capped
  exact : StandsFor (numeral (significant found)) (zeros_cut found) found
  exact =
      let n = numeral (significant found) in
      let l : n ≤ cap = omega (arith, le-mul_of_pos_right n (ten-pos (zeros_cut found)), whole, hm.small) in
      record { number = sym (min-eq_left l); cut = refl }

  -- with the exponent, which goes up or down
  pub number_short : (m.count ≡ 0 → ⊥) → (e : Exponent) → ExponentRead w (drop m.at w) e → all is_letter (drop e.at w) ≡ true
      → (u d : ℕ) → u ≡ scale_up (drop e.at w) → d ≡ scale_down (drop e.at w)
      → (high low : ℕ) → high ≡ u + 40 + cond e.minus 0 e.size → low ≡ m.places + d + cond e.minus e.size 0
      → (r : Result Decimal ℕ) → Settles s.minus m.number high low r → r ≡ number_of w
  number_short some e he h u d hu hd high low hh hl r f =
      let n = numeral (significant found) in
      let z = zeros_cut found in
      let p = hm.spans in
      let su = scale-up-small u _ hu in
      let sd = scale-down-small d _ hd in
      let zl = zeros-le found in
      let plus = cond e.minus 0 e.size in
      let minus = cond e.minus e.size 0 in
      f n z whole (significant-ends found (figures-all (drop s.at w)))
      ∙
      (ranged-shift s.minus n (z + high) (low + 40) (z + u + plus) (m.places + d + minus) (omega (arith, hh, hl))
      ∙ number-good w s hs m p some e he h u d hu hd n z exact
      (omega (arith, few, su, zl, p.count, p.some))
      (omega (arith, few, sd, p.short)))

  -- with letters alone behind the digits
  pub number-plain : (m.count ≡ 0 → ⊥) → all is_letter (drop m.at w) ≡ true
      → (u d : ℕ) → u ≡ scale_up (drop m.at w) → d ≡ scale_down (drop m.at w)
      → (r : Result Decimal ℕ) → Settles s.minus m.number (u + 40) (m.places + d) r → r ≡ number_of w
  number-plain some h u d hu hd r f =
      number_short some _ (exponent-letters w m.at hm.spans.within h) h u d hu hd (u + 40) (m.places + d) (omega arith) (omega arith) r f
