-- The result of a word: `ranged` by cases, what capping does to it (nothing), and `number_of` from what its parts say.
use Rattle.std.specs.Prelude.{Ok, Err}
use Prim.Native.Nat.{ℕ, ◌+◌, ◌-◌, ◌^◌, ◌≤◌, ◌<◌, min}
use mathlib.Core.Path.{◌≡◌, sym, ap, subst, ◌∙◌}
use mathlib.Core.List.{List, [], ◌∷◌}
use mathlib.Core.Bool.{Bool, true, false, cond, or-true}
use native.Mathlib.Nat.{min-eq_left}
use native.Mathlib.Omega.{arith}
use lib.Dec.{ltb, eqb}
use lib.ListN.{length, drop}
use borrow.Author.Tests.{eq-eqb, ne_eqb, lt-ltb, le-ltb, le-leb, lt-leb}
use Rattle.laws.specs.Bytes.{is_letter}
use Rattle.laws.specs.Lists.{all}
use Rattle.laws.specs.Said.{Said}
use Rattle.laws.proofs.Tests.{by_order, cond_yes, cond_no, cond-all}
use Rattle.decimal.specs.declared.word.Sign.{Sign}
use Rattle.decimal.specs.declared.word.Mantissa.{Mantissa}
use Rattle.decimal.specs.declared.word.Exponent.{Exponent}
use Rattle.decimal.specs.declared.Decimal.{Decimal}
use Rattle.decimal.specs.Decimal.{ranged, result_of, unsigned, number_of, is_minus, after_sign, figures, after_figures, after_e, letters, scale_up, scale_down, plus_exponent, minus_exponent, exponent_digits, numeral, significant, zeros_cut}
use Rattle.decimal.specs.Parts.{cap, StandsFor, SignRead, Spans, ExponentRead, places}

-- ---- `ranged`, by cases

module _ (minus : Bool) (n up down : ℕ) where
  pub ranged-zero : n ≡ 0 → ranged minus n up down ≡ Ok (record { negative = false; digits = 0; power = 40 })
  unfolding ranged
  ranged-zero h = cond_yes _ _ (eq-eqb n 0 h)

  module _ (h : n ≡ 0 → ⊥) where
    pub ranged-long : 10 ^ 15 ≤ n → ranged minus n up down ≡ Err 12
    unfolding ranged
    ranged-long k = rw (ne_eqb n 0 h, le-leb (10 ^ 15) n k)

    pub ranged-low : up + 40 < down → ranged minus n up down ≡ Err 12
    unfolding ranged
    ranged-low k = rw (ne_eqb n 0 h, lt-ltb (up + 40) down k, or-true)

    pub ranged-high : down + 24 < up → ranged minus n up down ≡ Err 12
    unfolding ranged
    ranged-high k = rw (ne_eqb n 0 h, lt-ltb (down + 24) up k, or-true)

    pub ranged-value : n < 10 ^ 15 → down ≤ up + 40 → up ≤ down + 24
        → ranged minus n up down ≡ Ok (record { negative = minus; digits = n; power = up + 40 - down })
    unfolding ranged
    ranged-value k l m = rw (ne_eqb n 0 h, lt-leb (10 ^ 15) n k, le-ltb (up + 40) down l, le-ltb (down + 24) up m)

-- the same power, as another up less down
pub ranged-shift : (minus : Bool) (n up down high low : ℕ) → up + low ≡ high + down → ranged minus n up down ≡ ranged minus n high low
unfolding ranged
ranged-shift minus n up down high low e =
    let a : ltb (up + 40) down ≡ ltb (high + 40) low =
    by_order down (up + 40)
    (λ k. le-ltb _ _ k ∙ sym (le-ltb (high + 40) low (omega arith)))
    (λ k. lt-ltb _ _ k ∙ sym (lt-ltb (high + 40) low (omega arith))) in
    let b : ltb (down + 24) up ≡ ltb (low + 24) high =
    by_order up (down + 24)
    (λ k. le-ltb _ _ k ∙ sym (le-ltb (low + 24) high (omega arith)))
    (λ k. lt-ltb _ _ k ∙ sym (lt-ltb (low + 24) high (omega arith))) in
    let p : up + 40 - down ≡ high + 40 - low = omega arith in
    rw (a, b, p)

-- ---- capping changes nothing: what is capped is out of range

pub number-capped : (minus : Bool) (n up down : ℕ) → ranged minus (min n cap) up down ≡ ranged minus n up down
number-capped minus n up down =
    by_order n cap
    (λ k. ap (λ (x : ℕ). ranged minus x up down) (min-eq_left k))
    (λ k.
    ranged-long minus (min n cap) up down (λ z. omega arith) (omega arith)
    ∙ sym (ranged-long minus n up down (λ z. omega arith) (omega arith)))

-- two that are both out of range, or both zero
same-wrong : (minus : Bool) (n up down high low : ℕ)
    → ((n ≡ 0 → ⊥) → ranged minus n up down ≡ Err 12) → ((n ≡ 0 → ⊥) → ranged minus n high low ≡ Err 12)
    → ranged minus n up down ≡ ranged minus n high low
same-wrong minus n up down high low f g =
    by_order n 0
    (λ k.
    let z : n ≡ 0 = omega arith in
    ranged-zero minus n up down z ∙ sym (ranged-zero minus n high low z))
    (λ k. f (λ z. omega arith) ∙ sym (g (λ z. omega arith)))

pub minus-capped : (minus : Bool) (n up down size : ℕ) → up + 40 < cap → ranged minus n up (down + min size cap) ≡ ranged minus n up (down + size)
minus-capped minus n up down size h =
    by_order size cap
    (λ k. ap (λ (x : ℕ). ranged minus n up (down + x)) (min-eq_left k))
    (λ k.
    same-wrong minus n up (down + min size cap) up (down + size)
    (λ z. ranged-low minus n up (down + min size cap) z (omega arith))
    (λ z. ranged-low minus n up (down + size) z (omega arith)))

pub plus-capped : (minus : Bool) (n up down size : ℕ) → down + 24 < cap → ranged minus n (up + min size cap) down ≡ ranged minus n (up + size) down
plus-capped minus n up down size h =
    by_order size cap
    (λ k. ap (λ (x : ℕ). ranged minus n (up + x) down) (min-eq_left k))
    (λ k.
    same-wrong minus n (up + min size cap) down (up + size) down
    (λ z. ranged-high minus n (up + min size cap) down z (omega arith))
    (λ z. ranged-high minus n (up + size) down z (omega arith)))

pub both-capped : (minus : Bool) (n up down size : ℕ) (t : Bool) → up + 40 < cap → down + 24 < cap
    → ranged minus (min n cap) (up + cond t 0 (min size cap)) (down + cond t (min size cap) 0)
    ≡ ranged minus n (up + cond t 0 size) (down + cond t size 0)
both-capped minus n up down size true h k =
    minus-capped minus (min n cap) (up + 0) down size (omega arith) ∙ number-capped minus n (up + 0) (down + size)
both-capped minus n up down size false h k =
    plus-capped minus (min n cap) up (down + 0) size (omega arith) ∙ number-capped minus n (up + size) (down + 0)

-- ---- an exponent by its sign: out of range by itself, or taken off one side

module _ (minus : Bool) (n up down size : ℕ) (t : Bool) where
  abbrev raised : Said Decimal
  raised = ranged minus n (up + cond t 0 size) (down + cond t size 0)

  signed-minus : t ≡ true → ranged minus n (up + 0) (down + size) ≡ raised
  signed-minus h = ap (λ (b : Bool). ranged minus n (up + cond b 0 size) (down + cond b size 0)) (sym h)

  signed-plus : t ≡ false → ranged minus n (up + size) (down + 0) ≡ raised
  signed-plus h = ap (λ (b : Bool). ranged minus n (up + cond b 0 size) (down + cond b size 0)) (sym h)

  pub minus-out : t ≡ true → (n ≡ 0 → ⊥) → up + 40 < size → Err 12 ≡ raised
  minus-out h z k = sym (ranged-low minus n (up + 0) (down + size) z (omega arith)) ∙ signed-minus h

  pub plus-out : t ≡ false → (n ≡ 0 → ⊥) → down + 24 < size → Err 12 ≡ raised
  plus-out h z k = sym (ranged-high minus n (up + size) (down + 0) z (omega arith)) ∙ signed-plus h

  pub minus-fits : t ≡ true → size ≤ up + 40 → ranged minus n (up + 40 - size) (down + 40) ≡ raised
  minus-fits h k = ranged-shift minus n (up + 40 - size) (down + 40) (up + 0) (down + size) (omega arith) ∙ signed-minus h

  pub plus-fits : t ≡ false → size ≤ down + 24 → ranged minus n (up + 64) (down + 24 - size + 40) ≡ raised
  plus-fits h k = ranged-shift minus n (up + 64) (down + 24 - size + 40) (up + size) (down + 0) (omega arith) ∙ signed-plus h

-- ---- scales are small

scale-up-le : (s : List ℕ) → scale_up s ≤ 12
unfolding scale_up
scale-up-le [] = omega arith
scale-up-le (b ∷ bs) =
    cond-all (λ n. n ≤ 12) (eqb b 84) 12 _ (λ h. omega arith)
    (λ h. cond-all (λ n. n ≤ 12) (eqb b 71) 9 _ (λ h. omega arith)
    (λ h. cond-all (λ n. n ≤ 12) (eqb b 77) 6 _ (λ h. omega arith)
    (λ h. cond-all (λ n. n ≤ 12) (eqb b 107) 3 0 (λ h. omega arith) (λ h. omega arith))))

scale-down-le : (s : List ℕ) → scale_down s ≤ 15
unfolding scale_down
scale-down-le [] = omega arith
scale-down-le (b ∷ bs) =
    cond-all (λ n. n ≤ 15) (eqb b 109) 3 _ (λ h. omega arith)
    (λ h. cond-all (λ n. n ≤ 15) (eqb b 117) 6 _ (λ h. omega arith)
    (λ h. cond-all (λ n. n ≤ 15) (eqb b 110) 9 _ (λ h. omega arith)
    (λ h. cond-all (λ n. n ≤ 15) (eqb b 112) 12 _ (λ h. omega arith)
    (λ h. cond-all (λ n. n ≤ 15) (eqb b 102) 15 0 (λ h. omega arith) (λ h. omega arith)))))

pub scale-up-small : (u : ℕ) (s : List ℕ) → u ≡ scale_up s → u ≤ 12
scale-up-small u s h = omega (arith, scale-up-le s)

pub scale-down-small : (d : ℕ) (s : List ℕ) → d ≡ scale_down s → d ≤ 15
scale-down-small d s h = omega (arith, scale-down-le s)

-- ---- `number_of`, from what the parts of the code say

module _ (w : List ℕ) (s : Sign) (hs : SignRead w 0 s) (m : Mantissa) (hm : Spans w (drop s.at w) m) where
  abbrev body : List ℕ
  body = after_sign w

  digits : Spans w body m
  digits = subst (λ (l : List ℕ). Spans w l m) hs.rest hm

  pub number-none : m.count ≡ 0 → number_of w ≡ Err 11
  unfolding number_of unsigned
  number-none h = cond_yes _ _ (eq-eqb (length (figures body)) 0 (sym digits.count ∙ h))

  module _ (some : m.count ≡ 0 → ⊥) (e : Exponent) (he : ExponentRead w (drop m.at w) e) where
    abbrev end : List ℕ
    end = after_figures body

    power : ExponentRead w end e
    power = subst (λ (l : List ℕ). ExponentRead w l e) digits.rest he

    opened : number_of w ≡ cond (all is_letter (letters end)) (result_of (is_minus w) (figures body) (length (places body)) end) (Err 11)
    unfolding number_of unsigned
    opened = cond_no _ _ (ne_eqb (length (figures body)) 0 (λ z. some (digits.count ∙ z)))

    pub number-bad : all is_letter (drop e.at w) ≡ false → number_of w ≡ Err 11
    number-bad h = opened ∙ cond_no _ _ (ap (all is_letter) (sym power.rest) ∙ h)

    pub number-good : all is_letter (drop e.at w) ≡ true → (u d : ℕ) → u ≡ scale_up (drop e.at w) → d ≡ scale_down (drop e.at w)
        → (n z : ℕ) → StandsFor n z (figures (drop s.at w)) → z + u + 40 < cap → m.places + d + 24 < cap
        → ranged s.minus n (z + u + cond e.minus 0 e.size) (m.places + d + cond e.minus e.size 0) ≡ number_of w
    unfolding result_of plus_exponent minus_exponent
    number-good h u d hu hd n z st k l =
        let a : u ≡ scale_up (letters end) = hu ∙ ap scale_up power.rest in
        let b : d ≡ scale_down (letters end) = hd ∙ ap scale_down power.rest in
        let stands = subst (λ (x : List ℕ). StandsFor n z (figures x)) hs.rest st in
        rw (hs.minus, stands.number, power.minus, power.size, a, b, stands.cut, digits.places)
        (both-capped (is_minus w) (numeral (significant (figures body)))
        (zeros_cut (figures body) + scale_up (letters end))
        (length (places body) + scale_down (letters end))
        (numeral (exponent_digits end))
        (is_minus (after_e end))
        (omega (arith, stands.cut))
        (omega (arith, digits.places)))
        ∙ sym (opened ∙ cond_yes _ _ (ap (all is_letter) (sym power.rest) ∙ h))
