-- Laws of `specs/Hints.antt`, one for each branch: the word at a place, what a line's first word says, and which text a word gets.
use Prim.Native.Nat.{ℕ, ◌+◌, ◌-◌, ◌≤◌}
use Prim.Native.Char.{code}
use mathlib.Core.Path.{◌≡◌, refl, sym, ap, ◌∙◌}
use mathlib.Core.List.{List, [], ◌∷◌, map}
use mathlib.Core.Bool.{Bool, true, false, ◌||◌}
use native.Mathlib.Omega.{arith}
use lib.ListN.{length, drop, get_or, drop_of_length-le}
use borrow.Author.Tests.{eq-eqb, ne_eqb}
use Rattle.laws.specs.Bytes.{bytes, capital}
use Rattle.laws.specs.Lists.{front, part, eqs, one_of}
use Rattle.laws.proofs.Fronts.{front_at}
use Rattle.laws.proofs.Lists.{part_none}
use Rattle.laws.proofs.Tests.{by_order, cond_yes, cond_no, or-none}
use Rattle.decimal.specs.Decimal.{is_missing}
use Rattle.records.specs.declared.Fault.{Fault}
use Rattle.words.specs.Words.{words, word, is_ink}
use Rattle.words.specs.Places.{WordAt}
use Rattle.words.specs.declared.Word.{Word}
use Rattle.fault_texts.specs.Hints.{hint_of}
use Rattle.refusal_text.specs.Hints.{word_at, missing_text, surplus_text, equals_text, wrong_text, word_hint, absent_text, slope_text, number_text, has_slopes, number_hint, range_hint, hint_at, hint_text}
use Rattle.refusal_text.specs.Places.{text_of_line, Lies}
use Rattle.refusal_text.proofs.TextLaws.{none-lies}

-- ---- words

pub word-past : (w : List ℕ) (place : ℕ) → length w ≤ place → Lies w (word_at w place) (record { start = 0; end = 0 })
unfolding word_at front
word-past w place h = none-lies w (word_at w place) (sym (ap (front is_ink) (drop_of_length-le w h)))

pub word-there : (w : List ℕ) (place end : ℕ) → end ≡ place + length (front is_ink (drop place w)) → (place ≤ end) × (end ≤ length w)
    → Lies w (word_at w place) (record { start = place; end = end })
unfolding word_at
word-there w place end e h = record { is = front_at is_ink w place end e; starts = h.0; ends = h.1 }

first_word : (w : List ℕ) (r : Word) → WordAt w 0 r → part r.start r.end w ≡ word 0 (words w)
unfolding word
first_word w r t =
    by_order (length w) r.start
    (λ h.
    let e : r.end ≡ r.start = omega (arith, h, t.starts, t.ends) in
    ap (λ (n : ℕ). part r.start n w) e ∙ part_none w r.start ∙ sym (ap (λ (ws : List (List ℕ)). get_or ws 0 []) (t.none h)))
    (λ h. sym (ap (λ (ws : List (List ℕ)). get_or ws 0 []) (t.some h)))

module _ (w : List ℕ) (r : Word) (t : WordAt w 0 r) where
  pub slopes-rise : eqs (part r.start r.end w) (bytes "dV/dt_r") ≡ true → true ≡ has_slopes w
  unfolding has_slopes one_of
  slopes-rise h = sym (ap (λ (b : Bool). b || (eqs (word 0 (words w)) (bytes "dV/dt_f") || false)) (ap (λ (v : List ℕ). eqs v (bytes "dV/dt_r")) (sym (first_word w r t)) ∙ h))

  pub slopes-fall : eqs (part r.start r.end w) (bytes "dV/dt_r") ≡ false → eqs (part r.start r.end w) (bytes "dV/dt_f") ≡ has_slopes w
  unfolding has_slopes one_of
  slopes-fall h =
      ap (λ (v : List ℕ). eqs v (bytes "dV/dt_f")) (first_word w r t)
      ∙ sym (or-none (eqs (word 0 (words w)) (bytes "dV/dt_f")))
      ∙ sym (ap (λ (b : Bool). b || (eqs (word 0 (words w)) (bytes "dV/dt_f") || false)) (ap (λ (v : List ℕ). eqs v (bytes "dV/dt_r")) (sym (first_word w r t)) ∙ h))

-- ---- 10

pub missing-hint : (surplus : Bool) (v : List ℕ) → length v ≡ 0 → missing_text ≡ word_hint surplus v
unfolding word_hint
missing-hint surplus [] h = refl
missing-hint surplus (b ∷ v) h = absurd (omega (arith, h))

pub surplus-hint : (surplus : Bool) (v : List ℕ) → (length v ≡ 0 → ⊥) → surplus ≡ true → surplus_text v ≡ word_hint surplus v
unfolding word_hint
surplus-hint surplus [] h e = absurd (h refl)
surplus-hint surplus (b ∷ v) h e = sym (cond_yes _ _ e)

pub equals-hint : (surplus : Bool) (v : List ℕ) → (length v ≡ 0 → ⊥) → surplus ≡ false → get_or v 0 0 ≡ code "=" → equals_text ≡ word_hint surplus v
unfolding word_hint
equals-hint surplus [] h e k = absurd (h refl)
equals-hint surplus (b ∷ v) h e k = sym (cond_no _ _ e ∙ cond_yes _ _ (eq-eqb b (code "=") k))

pub wrong-hint : (surplus : Bool) (v : List ℕ) → (length v ≡ 0 → ⊥) → surplus ≡ false → (get_or v 0 0 ≡ code "=" → ⊥) → wrong_text v ≡ word_hint surplus v
unfolding word_hint
wrong-hint surplus [] h e k = absurd (h refl)
wrong-hint surplus (b ∷ v) h e k = sym (cond_no _ _ e ∙ cond_no _ _ (ne_eqb b (code "=") k))

-- ---- 11

module _ (w v : List ℕ) where
  pub absent-hint : eqs (map capital v) (bytes "NA") ≡ true → absent_text ≡ number_hint w v
  unfolding number_hint is_missing
  absent-hint h = sym (cond_yes _ _ h)

  module _ (given : eqs (map capital v) (bytes "NA") ≡ false) where
    pub slope-hint : has_slopes w ≡ true → slope_text v ≡ number_hint w v
    unfolding number_hint is_missing
    slope-hint h = sym (cond_no _ _ given ∙ cond_yes _ _ h)

    pub number-hint : has_slopes w ≡ false → number_text v ≡ number_hint w v
    unfolding number_hint is_missing
    number-hint h = sym (cond_no _ _ given ∙ cond_no _ _ h)

-- ---- by the fault

module _ (w v : List ℕ) (n : ℕ) (surplus : Bool) where
  pub at-ten : n ≡ 10 → word_hint surplus v ≡ hint_at w v n surplus
  unfolding hint_at
  at-ten h = sym (cond_yes _ _ (eq-eqb n 10 h))

  module _ (other : n ≡ 10 → ⊥) where
    pub at-eleven : n ≡ 11 → number_hint w v ≡ hint_at w v n surplus
    unfolding hint_at
    at-eleven h = sym (cond_no _ _ (ne_eqb n 10 other) ∙ cond_yes _ _ (eq-eqb n 11 h))

    module _ (another : n ≡ 11 → ⊥) where
      pub at-twelve : n ≡ 12 → range_hint v ≡ hint_at w v n surplus
      unfolding hint_at
      at-twelve h = sym (cond_no _ _ (ne_eqb n 10 other) ∙ cond_no _ _ (ne_eqb n 11 another) ∙ cond_yes _ _ (eq-eqb n 12 h))

      pub at_none : (n ≡ 12 → ⊥) → hint_of n ≡ hint_at w v n surplus
      unfolding hint_at
      at_none h = sym (cond_no _ _ (ne_eqb n 10 other) ∙ cond_no _ _ (ne_eqb n 11 another) ∙ cond_no _ _ (ne_eqb n 12 h))

module _ (s : List ℕ) (f : Fault) (surplus : Bool) where
  pub untold-hint : f.column ≡ 0 → hint_of f.number ≡ hint_text s f surplus
  unfolding hint_text
  untold-hint h = sym (cond_yes _ _ (eq-eqb f.column 0 h))

  pub told-hint : (w : List ℕ) → w ≡ text_of_line s f.line → (f.column ≡ 0 → ⊥) → hint_at w (word_at w (f.column - 1)) f.number surplus ≡ hint_text s f surplus
  unfolding hint_text
  told-hint w e h = ap (λ (t : List ℕ). hint_at t (word_at t (f.column - 1)) f.number surplus) e ∙ sym (cond_no _ _ (ne_eqb f.column 0 h))
