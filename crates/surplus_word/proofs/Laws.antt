-- Laws of `specs/Surplus.antt`, one for each branch.
use Prim.Native.Nat.{ℕ, ◌+◌, ◌-◌, ◌≤◌, ◌<◌}
use Prim.Native.Char.{code}
use mathlib.Core.Path.{◌≡◌, sym, ap, ◌∙◌}
use mathlib.Core.List.{List}
use mathlib.Core.Bool.{Bool, false, not, ◌&&◌}
use native.Mathlib.Omega.{arith}
use lib.ListN.{length, replicate}
use lib.Seq.{sets}
use lib.Dec.{ltb}
use borrow.Author.Tests.{lt-ltb, le-ltb}
use Rattle.laws.specs.Bytes.{is_blank}
use Rattle.laws.specs.Lists.{front, part}
use Rattle.laws.proofs.Tests.{cond_yes, cond_no, and_both, and_left, and_right}
use Rattle.records.specs.declared.Fault.{Fault}
use Rattle.records.specs.declared.Lengths.{Lengths}
use Rattle.words.specs.declared.Word.{Word}
use Rattle.lines.specs.Places.{line_from}
use Rattle.lines.specs.declared.Line.{Line}
use Rattle.records.specs.declared.Answer.{Answer}
use Rattle.file_answer.specs.Answered.{answer_of}
use Rattle.refusal_text.specs.Places.{place_behind}
use Rattle.surplus_word.specs.Surplus.{rest_in, rest_at, blanked, is_ten, is_surplus}

-- ---- the rest of a line

module _ (l : List ℕ) (column place first : ℕ) (column-at : place ≡ column - 1) (word_at : first ≡ 0 + length (front is_blank l)) where
  pub rest-first : place ≤ first → length l ≡ rest_in l column
  unfolding rest_in
  rest-first h = sym (cond_no _ _ (and_left _ _ (le-ltb (length (front is_blank l)) (column - 1) (omega (arith, h, column-at, word_at)))))

  pub rest-past : length l ≤ place → length l ≡ rest_in l column
  unfolding rest_in
  rest-past h = sym (cond_no (column - 1) _ (and_right (ltb (length (front is_blank l)) (column - 1)) _ (le-ltb (column - 1) (length l) (omega (arith, h, column-at)))))

  pub rest-there : first < place → place < length l → place ≡ rest_in l column
  unfolding rest_in
  rest-there h k =
      column-at
      ∙ sym (cond_yes _ _ (and_both _ _ (lt-ltb (length (front is_blank l)) (column - 1) (omega (arith, h, column-at, word_at))) (lt-ltb (column - 1) (length l) (omega (arith, k, column-at)))))

pub rest-is : (s : List ℕ) (f : Fault) (before start place : ℕ) (l : Line) → before ≡ f.line - 1 → start ≡ place_behind s before → l ≡ line_from s start
    → place ≡ rest_in (part start l.end s) f.column → record { start = start + place; end = l.end } ≡ rest_at s f
unfolding rest_at
rest-is s f before start place l b e k h =
    let p : start ≡ place_behind s (f.line - 1) = e ∙ ap (place_behind s) b in
    (λ i. record { start = start + h i; end = l.end })
    ∙ ap (λ (m : Line). record { start = start + rest_in (part start m.end s) f.column; end = m.end }) k
    ∙ ap (λ (q : ℕ). record { start = q + rest_in (part q (line_from s q).end s) f.column; end = (line_from s q).end }) p

-- ---- the file with blanks there

pub blank_none : (s : List ℕ) (r : Word) → r.end ≤ r.start → s ≡ blanked s r
unfolding blanked
blank_none s r h = let e : 0 ≡ r.end - r.start = omega (arith, h) in ap (λ (n : ℕ). sets s r.start (replicate n (code " "))) e

-- ---- what is asked of the reader

module _ (l : Lengths) (s : List ℕ) (f : Fault) (r : Word) (rest_at_lem : r ≡ rest_at s f) where
  pub surplus-none : r.end ≤ r.start → false ≡ is_surplus l s f
  unfolding is_surplus
  surplus-none h =
      sym (and_left _ _ (le-ltb r.start r.end h))
      ∙ ap (λ (q : Word). ltb q.start q.end && not (is_ten f.line (answer_of l (blanked s q)).verdict)) rest_at_lem

  pub surplus-asked : (b : List ℕ) (a : Answer) (t : Bool) → r.start < r.end → b ≡ blanked s r → a ≡ answer_of l b → t ≡ is_ten f.line a.verdict → not t ≡ is_surplus l s f
  unfolding is_surplus
  surplus-asked b a t h e k x =
      ap not (x ∙ ap (λ (y : Answer). is_ten f.line y.verdict) (k ∙ ap (answer_of l) e))
      ∙ ap (λ (y : Bool). y && not (is_ten f.line (answer_of l (blanked s r)).verdict)) (sym (lt-ltb r.start r.end h))
      ∙ ap (λ (q : Word). ltb q.start q.end && not (is_ten f.line (answer_of l (blanked s q)).verdict)) rest_at_lem
