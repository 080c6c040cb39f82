-- Laws of `specs/Words.antt`: the first word and the others, by the first byte; then the same for places.
use Prim.Native.Nat.{ℕ, zero, suc, ◌+◌, ◌≤◌, ◌<◌}
use mathlib.Core.Path.{◌≡◌, refl, sym, ap, ◌∙◌}
use mathlib.Core.List.{List, [], ◌∷◌}
use mathlib.Core.Bool.{Bool, true, false, not}
use native.Mathlib.Omega.{arith}
use lib.ListN.{length, drop, get_or, drop_of_length-le}
use Rattle.laws.specs.Bytes.{is_blank}
use Rattle.laws.specs.Lists.{front, after, part}
use Rattle.laws.proofs.Tests.{by-test}
use Rattle.laws.proofs.Lists.{from_cons}
use Rattle.laws.proofs.Fronts.{after-at, front_at, after-stops, front-more}
use Rattle.words.specs.Words.{onto_word, grown, words, is_ink, rest_from}
use Rattle.words.specs.Places.{run_from}

-- a test's answer on the byte, as the code has it
pub ink-no : (b : ℕ) (t : Bool) → t ≡ is_blank b → t ≡ true → is_ink b ≡ false
unfolding is_ink
ink-no b t e h = ap not (sym e ∙ h)

pub ink-yes : (b : ℕ) (t : Bool) → t ≡ is_blank b → t ≡ false → is_ink b ≡ true
unfolding is_ink
ink-yes b t e h = ap not (sym e ∙ h)

-- blanks in front of the words mean nothing
words-blank : (l : List ℕ) → words l ≡ words (after is_blank l)
unfolding words after
words-blank [] = refl
words-blank (b ∷ bs) = by-test (is_blank b) (λ h. rw h (words-blank bs)) (λ h. simp h)

words-onto : (b x : ℕ) (xs : List ℕ) → is_blank b ≡ false → is_blank x ≡ false → words (b ∷ x ∷ xs) ≡ onto_word b (words (x ∷ xs))
unfolding words grown
words-onto b x xs h k = simp (h, k)

words-ink : (b : ℕ) (bs : List ℕ) → is_blank b ≡ false → words (b ∷ bs) ≡ front is_ink (b ∷ bs) ∷ words (after is_ink (b ∷ bs))
unfolding words grown front after is_ink onto_word
words-ink b [] h = simp h
words-ink b (x ∷ xs) h =
    by-test (is_blank x) (λ k. simp (h, k)) (λ k. words-onto b x xs h k ∙ ap (onto_word b) (words-ink x xs k) ∙ simp h)

onto-le : (b : ℕ) (ws : List (List ℕ)) → length (onto_word b ws) ≤ suc (length ws)
unfolding onto_word
onto-le b [] = omega arith
onto-le b (w ∷ ws) = omega arith

grown-le : (b : ℕ) (bs : List ℕ) (ws : List (List ℕ)) → length (grown b bs ws) ≤ suc (length ws)
unfolding grown
grown-le b [] ws = omega arith
grown-le b (x ∷ xs) ws = by-test (is_blank x) (λ h. rw h (omega arith)) (λ h. rw h (onto-le b ws))

-- a word has a byte at least
pub words-le : (l : List ℕ) → length (words l) ≤ length l
unfolding words
words-le [] = omega arith
words-le (b ∷ bs) =
    by-test (is_blank b)
    (λ h. rw h (omega (arith, words-le bs)))
    (λ h. rw h (omega (arith, words-le bs, grown-le b bs (words bs))))

-- ---- the rest from a word on

after-blank : (w : List ℕ) → after is_blank (after is_blank w) ≡ after is_blank w
unfolding after
after-blank [] = refl
after-blank (b ∷ bs) = by-test (is_blank b) (λ h. rw h (after-blank bs)) (λ h. simp h)

-- blanks in front mean nothing there
pub rest-blank : (n : ℕ) (w : List ℕ) → rest_from n (after is_blank w) ≡ rest_from n w
unfolding rest_from
rest-blank zero w = after-blank w
rest-blank (suc n) w = ap (λ (v : List ℕ). rest_from n (after is_ink v)) (after-blank w)

drop-nothing : (n : ℕ) → drop n (words []) ≡ []
unfolding words
drop-nothing n = drop_of_length-le [] {i = n} (omega arith)

rest-split : (n : ℕ) (v : List ℕ) → ((b : ℕ) (bs : List ℕ) → v ≡ b ∷ bs → is_blank b ≡ false) → words (rest_from n (after is_ink v)) ≡ drop n (words (after is_ink v))
    → words (rest_from n (after is_ink v)) ≡ drop (suc n) (words v)
unfolding words after
rest-split n [] k e = e ∙ drop-nothing n ∙ sym (drop-nothing (suc n))
rest-split n (b ∷ bs) k e = e ∙ ap (drop (suc n)) (sym (words-ink b bs (k b bs refl)))

pub words-rest : (n : ℕ) (w : List ℕ) → words (rest_from n w) ≡ drop n (words w)
unfolding rest_from
words-rest zero w = sym (words-blank w)
words-rest (suc n) w =
    rest-split n (after is_blank w) (λ b bs e. after-stops is_blank w b bs e) (words-rest n (after is_ink (after is_blank w)))
    ∙ ap (drop (suc n)) (sym (words-blank w))

-- ---- places

-- what the two scans answer
pub run-from : (s : List ℕ) (at start end : ℕ) → start ≡ at + length (front is_blank (drop at s)) → end ≡ start + length (front is_ink (drop start s))
    → record { start = start; end = end } ≡ run_from s at
unfolding run_from
run-from s at start end e f = λ i. record { start = e i; end = (f ∙ ap (λ (k : ℕ). k + length (front is_ink (drop k s))) e) i }

-- where the word begins, and where the others do
pub rest-here : (s : List ℕ) (at start : ℕ) → start ≡ at + length (front is_blank (drop at s)) → rest_from 0 (drop at s) ≡ drop start s
unfolding rest_from
rest-here s at start e = after-at is_blank s at start e

pub rest-next : (s : List ℕ) (at start end : ℕ) → start ≡ at + length (front is_blank (drop at s)) → end ≡ start + length (front is_ink (drop start s))
    → (n : ℕ) → rest_from (suc n) (drop at s) ≡ rest_from n (drop end s)
unfolding rest_from
rest-next s at start end e f n = ap (rest_from n) (ap (after is_ink) (after-at is_blank s at start e) ∙ after-at is_ink s start end f)

pub words-none : (s : List ℕ) (at start : ℕ) → start ≡ at + length (front is_blank (drop at s)) → length s ≤ start → words (drop at s) ≡ []
unfolding words
words-none s at start e h =
    words-blank (drop at s) ∙ ap words (after-at is_blank s at start e ∙ drop_of_length-le s h)

module _ (s : List ℕ) (at start : ℕ) (e : start ≡ at + length (front is_blank (drop at s))) (h : start < length s) where
  found : after is_blank (drop at s) ≡ get_or s start 0 ∷ drop (start + 1) s
  found = after-at is_blank s at start e ∙ from_cons s start 0 h

  inked : is_blank (get_or s start 0) ≡ false
  inked = after-stops is_blank (drop at s) _ _ found

  -- the word goes on behind its first byte
  pub ink-goes : (end : ℕ) → end ≡ start + 1 + length (front is_ink (drop (start + 1) s)) → end ≡ start + length (front is_ink (drop start s))
  ink-goes end q = q ∙ front-more is_ink s start 0 h (ink-yes (get_or s start 0) (is_blank (get_or s start 0)) refl inked)

  pub words-some : (end : ℕ) → end ≡ start + length (front is_ink (drop start s)) → words (drop at s) ≡ part start end s ∷ words (drop end s)
  words-some end q =
      words-blank (drop at s)
      ∙ ap words found
      ∙ words-ink (get_or s start 0) (drop (start + 1) s) inked
      ∙ ap (λ (x : List ℕ). front is_ink x ∷ words (after is_ink x)) (sym (from_cons s start 0 h))
      ∙ ap (λ (x : List ℕ). x ∷ words (after is_ink (drop start s))) (sym (front_at is_ink s start end q))
      ∙ ap (λ (x : List ℕ). part start end s ∷ words x) (after-at is_ink s start end q)

  -- a word has a byte
  pub word-rises : (end : ℕ) → end ≡ start + length (front is_ink (drop start s)) → start < end
  word-rises end q =
      omega (arith, front-more is_ink s start 0 h (ink-yes (get_or s start 0) (is_blank (get_or s start 0)) refl inked))
