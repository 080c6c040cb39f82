-- How many lines there are, by the LFs and the last byte: a byte that ends no line goes onto a line.
use Rattle.std.proofs.Common.{ℕ, suc, ◌+◌, ◌-◌, ◌≤◌, ◌<◌, ◌≡◌, refl, List, [], ◌∷◌, cond, length, get_or, arith, sym, ◌∙◌}
use Rattle.std.proofs.lemmas.List.Recursion.{is_count_by}
use Rattle.std.specs.List.{count_by}
use lib.Dec.{eqb}
use borrow.Author.Tests.{eq-eqb, ne_eqb}
use Rattle.laws.proofs.Tests.{by-test}
use Rattle.lines.specs.Lines.{Physical, is_return, onto_line, lines_of}

-- lines that are ended
abbrev feeds : List ℕ → ℕ
feeds [] = 0
feeds (b ∷ bs) = cond (eqb b 10) (1 + feeds bs) (feeds bs)

-- a line that is not ended
abbrev unended : List ℕ → ℕ
unended [] = 0
unended (b ∷ []) = cond (eqb b 10) 0 1
unended (b ∷ x ∷ bs) = unended (x ∷ bs)

onto-some : (b : ℕ) (ls : List Physical) → 0 < length (onto_line b ls)
unfolding onto_line
onto-some b [] = omega arith
onto-some b (l ∷ ls) = omega arith

onto-same : (b : ℕ) (ls : List Physical) → 0 < length ls → length (onto_line b ls) ≡ length ls
unfolding onto_line
onto-same b [] h = absurd (omega arith)
onto-same b (l ∷ ls) h = refl

some-line : (b : ℕ) (bs : List ℕ) → 0 < length (lines_of (b ∷ bs))
unfolding lines_of is_return
some-line b [] = by-test (eqb b 10) (λ e. rw e (omega arith)) (λ e. rw e (onto-some b []))
some-line b (x ∷ bs) =
    by-test (eqb b 10)
    (λ e. rw e (omega arith))
    (λ e. rw e (by-test (is_return b (x ∷ bs)) (λ q. rw q (some-line x bs)) (λ q. rw q (onto-some b (lines_of (x ∷ bs))))))

lines-counted : (s : List ℕ) → length (lines_of s) ≡ feeds s + unended s
unfolding lines_of is_return onto_line
lines-counted [] = omega arith
lines-counted (b ∷ []) = by-test (eqb b 10) (λ e. rw e (omega arith)) (λ e. rw e (omega arith))
lines-counted (b ∷ x ∷ bs) =
    by-test (eqb b 10)
    (λ e. rw e (omega (arith, lines-counted (x ∷ bs))))
    (λ e. rw e (by-test (is_return b (x ∷ bs))
    (λ q. rw q (lines-counted (x ∷ bs)))
    (λ q. rw q (omega (arith, onto-same b (lines_of (x ∷ bs)) (some-line x bs), lines-counted (x ∷ bs))))))

unended-yes : (b : ℕ) (bs : List ℕ) → (get_or (b ∷ bs) (length bs) 0 ≡ 10 → ⊥) → unended (b ∷ bs) ≡ 1
unended-yes b [] h = rw (ne_eqb b 10 h)
unended-yes b (x ∷ bs) h = unended-yes x bs h

unended-no : (b : ℕ) (bs : List ℕ) → get_or (b ∷ bs) (length bs) 0 ≡ 10 → unended (b ∷ bs) ≡ 0
unended-no b [] h = rw (eq-eqb b 10 h)
unended-no b (x ∷ bs) h = unended-no x bs h

counted-le : (s : List ℕ) → feeds s + unended s ≤ length s
counted-le [] = omega arith
counted-le (b ∷ []) = by-test (eqb b 10) (λ e. rw e (omega arith)) (λ e. rw e (omega arith))
counted-le (b ∷ x ∷ bs) = by-test (eqb b 10) (λ e. rw e (omega (arith, counted-le (x ∷ bs)))) (λ e. rw e (omega (arith, counted-le (x ∷ bs))))

pub lines-le : (s : List ℕ) → length (lines_of s) ≤ length s
lines-le s = omega (arith, lines-counted s, counted-le s)

module _ (s : List ℕ) (n : ℕ) (e : n ≡ count_by (λ b. eqb b 10) s) where
  counted : n ≡ feeds s
  counted = e ∙ sym (is_count_by feeds (λ b. eqb b 10) refl (λ x xs. refl) s)

  pub lines-open : 0 < length s → (get_or s (length s - 1) 0 ≡ 10 → ⊥) → n + 1 ≡ length (lines_of s)
  lines-open h k = omega (arith, counted, lines-counted s, last s h k)
    where
      last : (s : List ℕ) → 0 < length s → (get_or s (length s - 1) 0 ≡ 10 → ⊥) → unended s ≡ 1
      last [] h k = absurd (omega arith)
      last (b ∷ bs) h k = let q : suc (length bs) - 1 ≡ length bs = omega arith in unended-yes b bs (rw q at k)

  pub lines-ended : 0 < length s → get_or s (length s - 1) 0 ≡ 10 → n ≡ length (lines_of s)
  lines-ended h k = omega (arith, counted, lines-counted s, last s h k)
    where
      last : (s : List ℕ) → 0 < length s → get_or s (length s - 1) 0 ≡ 10 → unended s ≡ 0
      last [] h k = refl
      last (b ∷ bs) h k = let q : suc (length bs) - 1 ≡ length bs = omega arith in unended-no b bs (rw q at k)

  pub lines-none : length s ≤ 0 → n ≡ length (lines_of s)
  lines-none h = omega (arith, counted, lines-counted s, counted-le s)
