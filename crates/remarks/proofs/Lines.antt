-- The line of an entry is its place among the entries and the skipped lines before it. By induction over the lines.
use Prim.Native.Nat.{ℕ, zero, suc, ◌+◌, ◌-◌, ◌≤◌, ◌<◌, min}
use Prim.Native.Char.{code}
use mathlib.Core.Path.{◌≡◌, refl, sym, ap, ◌∙◌}
use mathlib.Core.List.{List, [], ◌∷◌, map}
use native.Mathlib.Omega.{arith}
use lib.Dec.{eqb}
use lib.ListN.{length, get_or, length-map, get_or-eq_default}
use borrow.Author.Tests.{ne_eqb}
use Rattle.lines.specs.Lines.{Physical, lines_of}
use Rattle.cut_lines.specs.InForce.{char_after_line}
use Rattle.renumbered.proofs.Outcomes.{Numbering}
use Rattle.remarks.specs.Counted.{counts_as, Counted, onto_counted, counted_from, counted, list_of, line_at, skip, skipped_in, skipped_before}

-- the line of the entry behind i others; past is the line after the last
abbrev line_from : ℕ → List Counted → ℕ → ℕ
line_from past es i = get_or (map (λ (e : Counted). e.line) es) i past

-- ---- a line more

skipped-more : (c k at : ℕ) (l : Physical) (ls : List Physical) → k + 1 ≤ at
    → skipped_in c (at - k) (l ∷ ls) ≡ skip (counts_as c l.bytes) + skipped_in (char_after_line c l) (at - (k + 1)) ls
unfolding skipped_in
skipped-more c k at l ls h =
    let e : at - k ≡ suc (at - (k + 1)) = omega arith in
    ap (λ (n : ℕ). skipped_in c n (l ∷ ls)) e

-- every entry stands where its place and the skipped lines before it say; the first line is k, and ls are the lines
abbrev Stand : ℕ → ℕ → List Physical → ℕ → List Counted → Type 0
Stand c k ls past es = (i : ℕ) → line_from past es i ≡ k + min i (length es) + skipped_in c (line_from past es i - k) ls

onto-stand : (c k past : ℕ) (l : Physical) (ls : List Physical) (w : List ℕ) (es : List Counted) → counts_as c l.bytes ≡ w
    → Stand (char_after_line c l) (k + 1) ls past es → Stand c k (l ∷ ls) past (onto_counted k w es)
unfolding onto_counted skipped_in
onto-stand c k past l ls [] es e h i =
    let at : ℕ = line_from past es i in
    let more : skipped_in c (at - k) (l ∷ ls) ≡ 1 + skipped_in (char_after_line c l) (at - (k + 1)) ls = rw e at (skipped-more c k at l ls (omega (arith, h i))) in
    omega (arith, h i, more)
onto-stand c k past l ls (b ∷ bs) es e h zero =
    let z : k - k ≡ 0 = omega arith in
    let none : skipped_in c (k - k) (l ∷ ls) ≡ 0 = rw z refl in
    omega (arith, none)
onto-stand c k past l ls (b ∷ bs) es e h (suc i) =
    let at : ℕ = line_from past es i in
    let more : skipped_in c (at - k) (l ∷ ls) ≡ 0 + skipped_in (char_after_line c l) (at - (k + 1)) ls = rw e at (skipped-more c k at l ls (omega (arith, h i))) in
    omega (arith, h i, more)

stand : (c k past : ℕ) (ls : List Physical) → past ≡ k + length ls → Stand c k ls past (counted_from c k ls)
unfolding counted_from skipped_in
stand c k past [] e = λ i.
    let z : past - k ≡ 0 = omega arith in
    let none : skipped_in c (past - k) [] ≡ 0 = rw z refl in
    omega (arith, none)
stand c k past (l ∷ ls) e =
    let more = stand (char_after_line c l) (k + 1) past ls (omega arith) in
    onto-stand c k past l ls (counts_as c l.bytes) (counted_from (char_after_line c l) (k + 1) ls) refl more

-- ---- in a file

-- every line by the place of its entry, from 1; 0 is no line
unfoldable pub number_at : List ℕ → ℕ → ℕ
number_at s i = get_or (0 ∷ map (λ (e : Counted). e.line) (counted s)) i (length (lines_of s) + 1)

module _ (s : List ℕ) where
  pub line-is : (i : ℕ) → line_at s i ≡ 1 + min i (length (list_of s)) + skipped_before s (line_at s i)
  unfolding line_at list_of skipped_before counted
  line-is i =
      let more = stand (code "|") 1 (length (lines_of s) + 1) (lines_of s) (omega arith) i in
      omega (arith, more, length-map (counted_from (code "|") 1 (lines_of s)) (λ (e : Counted). e.text))

  pub number_is : (i : ℕ) → number_at s (suc i) ≡ line_at s i
  unfolding number_at line_at
  number_is i = refl

  pub numbering : Numbering (number_at s)
  unfolding number_at
  numbering = record { none = refl; apart = apart }
    where
      apart : (k : ℕ) → eqb (number_at s k) 0 ≡ eqb k 0
      apart zero = refl
      apart (suc i) = ne_eqb (number_at s (suc i)) 0 (λ q. omega (arith, line-is i, number_is i)) ∙ sym (ne_eqb (suc i) 0 (λ q. omega arith))

  pub line-past : line_at s (length (list_of s)) ≡ length (lines_of s) + 1
  unfolding line_at list_of
  line-past =
      get_or-eq_default (map (λ (e : Counted). e.line) (counted s)) (length (lines_of s) + 1)
      (omega (arith, length-map (counted s) (λ (e : Counted). e.text), length-map (counted s) (λ (e : Counted). e.line)))

  -- it is no entry's
  pub past-apart : (i : ℕ) → i < length (list_of s) → line_at s i ≡ length (lines_of s) + 1 → ⊥
  past-apart i h e = omega (arith, line-is i, line-is (length (list_of s)), line-past, ap (skipped_before s) e, ap (skipped_before s) line-past)
