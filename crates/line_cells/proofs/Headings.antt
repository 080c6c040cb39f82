-- The heading word by word: each is the next one of both headings, or of the long one, or is told where it begins.
use Rattle.std.specs.Prelude.{Ok, Err}
use Prim.Native.Nat.{ℕ, ◌≤◌, ◌<◌}
use mathlib.Core.Path.{◌≡◌, refl, sym, ap, ◌∙◌}
use mathlib.Core.List.{List, [], ◌∷◌}
use mathlib.Core.Bool.{Bool, true, false, cond, ◌&&◌}
use native.Mathlib.Omega.{arith}
use lib.ListN.{length, drop}
use Rattle.laws.specs.Bytes.{bytes, is_blank}
use Rattle.laws.specs.Lists.{eqs, after}
use Rattle.laws.specs.Said.{or_else}
use Rattle.laws.proofs.Tests.{by_order, and_left}
use Rattle.records.specs.Flaws.{Reads, flaw, told, told_in, at_place}
use Rattle.words.specs.Words.{word, words, grown, onto_word, rest_from}
use Rattle.words.specs.Places.{WordAt}
use Rattle.words.specs.declared.Word.{Word}
use Rattle.words.proofs.Laws.{rest-blank, words-rest}
use Rattle.line_rules.specs.Fields.{same_words, differing, heading}
use Rattle.line_rules.proofs.Told.{ten-at, word-text}
use Rattle.line_cells.specs.Threes.{bytes_of}
use Rattle.line_cells.specs.Headings.{long_from, heading_from, cell_names, NameThere, NameOther}

-- ---- blanks before a word mean nothing

differ-alike : (ns : List (List ℕ)) (v u : List ℕ) → words v ≡ words u → ((n : ℕ) → rest_from n v ≡ rest_from n u) → differing ns v ≡ differing ns u
unfolding differing
differ-alike [] v u e f = f 0
differ-alike (n ∷ ns) v u e f = rw (e, f 0, f 1) refl

differ-blank : (ns : List (List ℕ)) (v : List ℕ) → differing ns (rest_from 0 v) ≡ differing ns v
unfolding rest_from
differ-blank ns v = differ-alike ns (after is_blank v) v (words-rest 0 v) (λ n. rest-blank n v)

-- ---- the word from a place on

module _ (s : List ℕ) (at : ℕ) (r : Word) (h : WordAt s at r) where
  start-within : r.start ≤ length s
  start-within = omega (arith, h.starts, h.ends)

  -- it is looked for
  module _ (n : List ℕ) (k : eqs [] n ≡ false) where
    same_word : (ns : List (List ℕ)) → same_words (words (drop at s)) (n ∷ ns) ≡ (eqs (bytes_of s r) n && same_words (words (drop r.end s)) ns)
    unfolding same_words word
    same_word ns =
        by_order (length s) r.start
        (λ g.
        let none : bytes_of s r ≡ [] = word-text s at r h ∙ ap (word 0) (h.none g) in
        ap (λ (ws : List (List ℕ)). same_words ws (n ∷ ns)) (h.none g)
        ∙ sym (and_left (eqs (bytes_of s r) n) _ (ap (λ (x : List ℕ). eqs x n) none ∙ k)))
        (λ g. ap (λ (ws : List (List ℕ)). same_words ws (n ∷ ns)) (h.some g))

    differ-word : (ns : List (List ℕ)) → differing (n ∷ ns) (drop at s) ≡ cond (eqs (bytes_of s r) n) (differing ns (drop r.end s)) (drop r.start s)
    unfolding differing
    differ-word ns =
        rw (sym (word-text s at r h), h.here, h.next 0)
        (ap (λ (x : List ℕ). cond (eqs (bytes_of s r) n) x (drop r.start s)) (differ-blank ns (drop r.end s)))

    module _ (e : eqs (bytes_of s r) n ≡ true) where
      long-word : (ns : List (List ℕ)) → long_from (n ∷ ns) (drop at s) ≡ long_from ns (drop r.end s)
      unfolding long_from
      long-word ns = rw (same_word ns, differ-word ns, e) refl

      heading-word : (ms ns : List (List ℕ)) → heading_from (n ∷ ms) (n ∷ ns) (drop at s) ≡ heading_from ms ns (drop r.end s)
      unfolding heading_from
      heading-word ms ns = rw (same_word ms, long-word ns, e) refl

    module _ (e : eqs (bytes_of s r) n ≡ false) where
      long-other : (ns : List (List ℕ)) → told_in s (long_from (n ∷ ns) (drop at s)) ≡ Err (at_place 10 r.start)
      unfolding long_from
      long-other ns = rw (same_word ns, differ-word ns, e) (ap Err (ten-at s r.start start-within))

      heading-other : (ms ns : List (List ℕ)) → told_in s (heading_from (n ∷ ms) (n ∷ ns) (drop at s)) ≡ Err (at_place 10 r.start)
      unfolding heading_from
      heading-other ms ns = rw (same_word ms, e) (long-other ns)

  -- there is none, or one more
  heading-none : (ns : List (List ℕ)) → length s ≤ r.start → heading_from [] ns (drop at s) ≡ Ok false
  unfolding heading_from same_words
  heading-none ns g = rw (h.none g) refl

  heading-some : (ns : List (List ℕ)) → r.start < length s → heading_from [] ns (drop at s) ≡ long_from ns (drop at s)
  unfolding heading_from same_words
  heading-some ns g = ap (λ (ws : List (List ℕ)). cond (same_words ws []) (Ok false) (long_from ns (drop at s))) (h.some g)

  pub long-none : length s ≤ r.start → long_from [] (drop at s) ≡ Ok true
  unfolding long_from same_words
  long-none g = rw (h.none g) refl

  pub long-more : r.start < length s → told_in s (long_from [] (drop at s)) ≡ Err (at_place 10 r.start)
  unfolding long_from same_words differing
  long-more g =
      ap (λ (ws : List (List ℕ)). told_in s (cond (same_words ws []) (Ok true) (Err (flaw 10 (rest_from 0 (drop at s)))))) (h.some g)
      ∙ ap (λ (v : List ℕ). Err (told s (flaw 10 v))) h.here
      ∙ ap Err (ten-at s r.start start-within)

-- ---- a name that is looked for

no-name : (n : List ℕ) → 0 < length n → eqs [] n ≡ false
unfolding eqs
no-name [] h = absurd (omega arith)
no-name (b ∷ n) h = refl

module _ {s : List ℕ} {at : ℕ} {r : Word} (h : WordAt s at r) {n : List ℕ} (k : 0 < length n) where
  pub named-there : eqs (bytes_of s r) n ≡ true → NameThere s at n r.end
  named-there e = record { within = h.ends; heading = heading-word s at r h n (no-name n k) e; long = long-word s at r h n (no-name n k) e }

  pub named-other : eqs (bytes_of s r) n ≡ false → NameOther s at n (at_place 10 r.start)
  named-other e = record { heading = heading-other s at r h n (no-name n k) e; long = long-other s at r h n (no-name n k) e }

-- ---- the heading, by its words

pub heading-from : (v : List ℕ) → heading v ≡ heading_from (bytes "signal_name" ∷ bytes "model_name" ∷ []) (bytes "signal_name" ∷ bytes "model_name" ∷ cell_names) v
unfolding heading heading_from long_from words grown onto_word is_blank
heading-from v = refl

-- by the places of the names
module _ {w : List ℕ} {at p : ℕ} (a : NameThere w at (bytes "signal_name") p) where
  pub heading-second : heading (drop at w) ≡ heading_from (bytes "model_name" ∷ []) (bytes "model_name" ∷ cell_names) (drop p w)
  heading-second = heading-from _ ∙ a.heading _ _

  module _ {q : ℕ} {r : Word} (b : NameThere w p (bytes "model_name") q) (h : WordAt w q r) where
    heading-third : heading (drop at w) ≡ heading_from [] cell_names (drop q w)
    heading-third = heading-second ∙ b.heading _ _

    pub heading-short : length w ≤ r.start → heading (drop at w) ≡ Ok false
    heading-short k = heading-third ∙ heading-none w q r h _ k

    pub heading-cells : r.start < length w → heading (drop at w) ≡ long_from cell_names (drop q w)
    heading-cells k = heading-third ∙ heading-some w q r h _ k

-- ---- what is told of the heading says whether it is the long one

pub heading-long : (w : List ℕ) (h : Reads Bool) → or_else false h ≡ or_else false (told_in w h)
heading-long w (Ok long) = refl
heading-long w (Err f) = refl
