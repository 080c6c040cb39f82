-- Laws of `specs/Parts.antt`: the first text of a table and those behind it, from a place on; then the search for the text at a place.
use Prim.Native.Nat.{ℕ, zero, suc, ◌+◌, ◌-◌, ◌≤◌, ◌<◌, min}
use mathlib.Core.Path.{◌≡◌, sym, ap, ◌∙◌}
use mathlib.Core.List.{List, [], ◌∷◌}
use native.Mathlib.Nat.{add-zero}
use native.Mathlib.Omega.{arith}
use lib.ListN.{length, drop, get_or, length-drop, drop_of_length-le, get_or-eq_default}
use lib.Seq.{drop-nil, drop-drop, get_or-drop}
use Rattle.laws.specs.Lists.{front, after, other, part}
use Rattle.laws.proofs.Tests.{by-test}
use Rattle.laws.proofs.Lists.{from_cons, part_none}
use Rattle.laws.proofs.Fronts.{after-at, front_at, front-le}
use Rattle.words.specs.Words.{onto_word}
use Rattle.text_buffer.specs.Parts.{parts, start_from, lying_at, PartAt}

-- up to the separator, and behind it
parts_first : (c b : ℕ) (bs : List ℕ) → parts c (b ∷ bs) ≡ front (other c) (b ∷ bs) ∷ parts c (drop 1 (after (other c) (b ∷ bs)))
unfolding parts front after onto_word
parts_first c b [] = by-test (other c b) (λ h. simp h) (λ h. simp h)
parts_first c b (x ∷ xs) =
    by-test (other c b) (λ h. rw h (ap (onto_word b) (parts_first c x xs))) (λ h. simp h)

-- ---- where a text begins and lies

module _ (c : ℕ) (table : List ℕ) where
  pub start-turn : (start end left : ℕ) → end ≡ start + length (front (other c) (drop start table)) → 0 < left
      → start_from c table (end + 1) (left - 1) ≡ start_from c table start left
  unfolding start_from
  start-turn start end left e q =
      let s : suc (left - 1) ≡ left = omega arith in
      ap (λ (k : ℕ). start_from c table (k + 1) (left - 1)) e ∙ ap (start_from c table start) s

  start-rises : (n start : ℕ) → start ≤ start_from c table start n
  unfolding start_from
  start-rises zero start = omega arith
  start-rises (suc n) start = omega (arith, start-rises n (start + length (front (other c) (drop start table)) + 1))

  lies-here : (start end place : ℕ) → start < length table → end ≡ start + length (front (other c) (drop start table)) → start_from c table start 0 ≡ start_from c table 0 place
      → record { start = start; end = end } ≡ lying_at table c place
  unfolding lying_at start_from
  lies-here start end place h e q =
      let m : start ≡ min (start_from c table 0 place) (length table) = omega (arith, h, q) in
      λ i. record { start = m i; end = (e ∙ ap (λ (k : ℕ). k + length (front (other c) (drop k table))) m) i }

  lies-past : (start left place : ℕ) → length table ≤ start → start_from c table start left ≡ start_from c table 0 place
      → record { start = length table; end = length table } ≡ lying_at table c place
  unfolding lying_at
  lies-past start left place h q =
      let m : length table ≡ min (start_from c table 0 place) (length table) = omega (arith, h, q, start-rises left start) in
      let n : length table ≡ length table + length (front (other c) (drop (length table) table)) =
      omega (arith, front-le (other c) (drop (length table) table), length-drop (length table) table) in
      λ i. record { start = m i; end = (n ∙ ap (λ (k : ℕ). k + length (front (other c) (drop k table))) m) i }

-- ---- the search: what is left of the texts from a place on is what is left of all

module _ (table : List ℕ) (c start end : ℕ) (h : start < length table) (e : end ≡ start + length (front (other c) (drop start table))) where
  parts_at : parts c (drop start table) ≡ part start end table ∷ parts c (drop (end + 1) table)
  parts_at =
      ap (parts c) (from_cons table start 0 h)
      ∙ parts_first c (get_or table start 0) (drop (start + 1) table)
      ∙ ap (λ (x : List ℕ). front (other c) x ∷ parts c (drop 1 (after (other c) x))) (sym (from_cons table start 0 h))
      ∙ ap (λ (x : List ℕ). x ∷ parts c (drop 1 (after (other c) (drop start table)))) (sym (front_at (other c) table start end e))
      ∙ ap (λ (x : List ℕ). part start end table ∷ parts c (drop 1 x)) (after-at (other c) table start end e)
      ∙ ap (λ (x : List ℕ). part start end table ∷ parts c x) (drop-drop 1 end table)

  -- a turn passes one text
  pub parts-turn : (left : ℕ) → 0 < left → drop left (parts c (drop start table)) ≡ drop (left - 1) (parts c (drop (end + 1) table))
  parts-turn left q =
      let s : left ≡ suc (left - 1) = omega arith in
      ap (λ (n : ℕ). drop n (parts c (drop start table))) s ∙ ap (drop (suc (left - 1))) parts_at

  pub part-here : (place : ℕ) → end ≤ length table → drop 0 (parts c (drop start table)) ≡ drop place (parts c table)
      → start_from c table start 0 ≡ start_from c table 0 place → PartAt table c place (record { start = start; end = end })
  part-here place b q at =
      let r : part start end table ∷ parts c (drop (end + 1) table) ≡ drop place (parts c table) = sym parts_at ∙ q in
      let k : place < length (parts c table) = omega (arith, ap length r, length-drop place (parts c table)) in
      record {
        is = lies-here c table start end place h e at;
        text = ap (λ (l : List (List ℕ)). get_or l 0 []) r ∙ get_or-drop place (parts c table) 0 [] ∙ ap (λ (n : ℕ). get_or (parts c table) n []) (add-zero place);
        there = λ _. k;
        past = λ g. absurd (omega arith);
        starts = omega arith;
        ends = b;
      }

-- past the last text nothing is left
pub part-past : (table : List ℕ) (c start left place : ℕ) → length table ≤ start → drop left (parts c (drop start table)) ≡ drop place (parts c table)
    → start_from c table start left ≡ start_from c table 0 place → PartAt table c place (record { start = length table; end = length table })
unfolding parts
part-past table c start left place h q at =
    let n : drop place (parts c table) ≡ [] = sym q ∙ ap (λ (l : List ℕ). drop left (parts c l)) (drop_of_length-le table h) ∙ drop-nil left in
    let k : length (parts c table) ≤ place = omega (arith, ap length n, length-drop place (parts c table)) in
    record {
      is = lies-past c table start left place h at;
      text = part_none table (length table) ∙ sym (get_or-eq_default (parts c table) [] k);
      there = λ g. absurd (omega arith);
      past = λ _. k;
      starts = omega arith;
      ends = omega arith;
    }
