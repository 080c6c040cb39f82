-- The keys that were seen: the bit of a key that is seen is set, and every other that was set stays.
use Prim.Native.Nat.{ℕ, ◌%◌, ◌<◌}
use mathlib.Core.Path.{◌≡◌, refl, sym, ap, ◌∙◌}
use mathlib.Core.List.{List}
use mathlib.Core.Bool.{true}
use native.Mathlib.Omega.{arith}
use lib.ListN.{length, get_or, length-set}
use lib.Seq.{get_or-set_same, get_or-set_other}
use lib.Dec.{eqb}
use borrow.Author.Tests.{eqb-true, eqb-false}
use Rattle.laws.proofs.Tests.{by-test}
use Rattle.given.specs.Given.{has, with}
use Rattle.given.specs.declared.Given.{Given}
use Rattle.given.proofs.Laws.{has-with, has_other}
use Rattle.name_checks.specs.Lookup.{seen_words, seen_word, seen_bits, is_seen, with_seen}

stays-given : (x : Given) (j k : ℕ) → k < 64 → has x j ≡ true → has (with x k) j ≡ true
stays-given x j k h t =
    by-test (eqb j k)
    (λ e. ap (has (with x k)) (eqb-true j k e) ∙ has-with x k h)
    (λ e. has_other x j k (eqb-false j k e) ∙ t)

pub seen-long : (seen : List ℕ) (key : ℕ) → length (with_seen seen key) ≡ length seen
unfolding with_seen
seen-long seen key = length-set seen (seen_word key) (with (seen_bits seen key) (key % 64)).bits

module _ (seen : List ℕ) (key : ℕ) (long : length seen ≡ seen_words) where
  -- the word of the key's bit, and the others
  own-word : (other : ℕ) → seen_word other ≡ seen_word key → seen_bits (with_seen seen key) other ≡ with (seen_bits seen key) (key % 64)
  unfolding with_seen
  own-word other e =
      let inside : seen_word key < length seen = omega (arith, long) in
      ap (λ (at : ℕ). record { bits = get_or (with_seen seen key) at 0 }) e
      ∙ ap (λ (n : ℕ). record { bits = n }) (get_or-set_same seen (seen_word key) (with (seen_bits seen key) (key % 64)).bits 0 inside)

  other_word : (other : ℕ) → (seen_word other ≡ seen_word key → ⊥) → seen_bits (with_seen seen key) other ≡ seen_bits seen other
  unfolding with_seen
  other_word other e = ap (λ (n : ℕ). record { bits = n }) (get_or-set_other seen (seen_word key) (seen_word other) (with (seen_bits seen key) (key % 64)).bits 0 e)

  pub seen-own : is_seen (with_seen seen key) key ≡ true
  unfolding is_seen
  seen-own = ap (λ (x : Given). has x (key % 64)) (own-word key refl) ∙ has-with (seen_bits seen key) (key % 64) (omega arith)

  pub seen-stays : (other : ℕ) → is_seen seen other ≡ true → is_seen (with_seen seen key) other ≡ true
  unfolding is_seen
  seen-stays other t =
      by-test (eqb (seen_word other) (seen_word key))
      (λ h.
      let e = eqb-true (seen_word other) (seen_word key) h in
      ap (λ (x : Given). has x (other % 64)) (own-word other e)
      ∙ stays-given (seen_bits seen key) (other % 64) (key % 64) (omega arith) (ap (λ (at : ℕ). has (record { bits = get_or seen at 0 }) (other % 64)) (sym e) ∙ t))
      (λ h. ap (λ (x : Given). has x (other % 64)) (other_word other (eqb-false (seen_word other) (seen_word key) h)) ∙ t)
