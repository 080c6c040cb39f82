-- A file's texts are those of its lines that count, each by its number. By induction over the lines; a line counts as something that reads as the line does.
use Rattle.std.specs.Prelude.{Ok, Err}
use Prim.Native.Nat.{ℕ, suc, ◌+◌, ◌<◌}
use mathlib.Core.Path.{◌≡◌, refl, sym, ap, ◌∙◌}
use mathlib.Core.List.{List, [], ◌∷◌, map}
use mathlib.Core.Bool.{true, false, cond}
use native.Mathlib.Omega.{arith}
use lib.ListN.{length, get_or}
use Rattle.laws.specs.Bytes.{bytes}
use Rattle.laws.specs.Said.{or_else}
use Rattle.laws.proofs.Tests.{by-test, cond_yes, cond_map, impossible}
use Rattle.records.specs.Flaws.{Reads, column_in, flaw_in, told}
use Rattle.lines.specs.Lines.{Physical, cut}
use Rattle.cut_lines.specs.Change.{is_change, change_of}
use Rattle.cut_lines.specs.InForce.{char_after_line}
use Rattle.cut_lines.specs.Texts.{Text, plain, change, onto_texts, texts_from}
use Rattle.cut_lines.proofs.Renumbered.{text_at}
use Rattle.remarks.specs.Counted.{change_counts, counts_as, Counted, onto_counted, counted_from}
use Rattle.remarks.proofs.Changes.{cut-unchanged, no_change, char-set, canonical-change, canonical-sets}

-- the text that an entry of the list is, at line k
unfoldable pub text_for : ℕ → List ℕ → Text
text_for k w = cond (is_change w) (change k (told w (flaw_in (change_of w)))) (plain k w)

abbrev pub text_of : Counted → Text
text_of e = text_for e.line e.text

-- ---- one line

module _ (k : ℕ) where
  text-change : (w : List ℕ) (r : Reads ℕ) → is_change w ≡ true → change_of w ≡ r → text_for k w ≡ change k (told w (flaw_in r))
  unfolding text_for
  text-change w r h e = cond_yes _ _ h ∙ ap (λ (x : Reads ℕ). change k (told w (flaw_in x))) e

  onto-change : (l : List ℕ) (r : Reads ℕ) (es : List Counted) → is_change l ≡ true → change_of l ≡ r
      → map text_of (onto_counted k (change_counts l r) es) ≡ change k (told l (flaw_in r)) ∷ map text_of es
  unfolding onto_counted column_in
  onto-change l (Ok x) es h e =
      let marked = (char-set x l e).marked in
      ap (λ (t : Text). t ∷ map text_of es) (text-change (change_counts l (Ok x)) (Ok x) (canonical-change x marked) (canonical-sets x marked))
  onto-change [] (Err f) es h e = impossible (no_change h)
  onto-change (b ∷ bs) (Err f) es h e = ap (λ (t : Text). t ∷ map text_of es) (text-change (b ∷ bs) (Err f) h e)

  onto-plain : (w : List ℕ) (es : List Counted) → is_change w ≡ false → map text_of (onto_counted k w es) ≡ onto_texts k w (map text_of es)
  unfolding text_for onto_counted onto_texts
  onto-plain [] es h = refl
  onto-plain (b ∷ bs) es h = rw h

-- ---- all lines

pub counted-texts : (c k : ℕ) (ls : List Physical) → texts_from c k ls ≡ map text_of (counted_from c k ls)
unfolding texts_from counted_from counts_as char_after_line
counted-texts c k [] = refl
counted-texts c k (l ∷ ls) =
    by-test (is_change l.bytes)
    (λ t. rw t (ap (λ (ts : List Text). change k (told l.bytes (flaw_in (change_of l.bytes))) ∷ ts) (counted-texts (or_else c (change_of l.bytes)) (k + 1) ls) ∙ sym (onto-change k l.bytes (change_of l.bytes) _ t refl)))
    (λ t. rw t (ap (onto_texts k (cut c l.bytes)) (counted-texts c (k + 1) ls) ∙ sym (onto-plain k (cut c l.bytes) _ (cut-unchanged c l.bytes t))))

-- ---- the same texts by the places of their entries: f gives each its line

pub text_at_lem : (f : ℕ → ℕ) (k : ℕ) (w : List ℕ) → text_at f (text_for k w) ≡ text_for (f k) w
unfolding text_for
text_at_lem f k w = cond_map (text_at f) (is_change w) _ _

-- the entries of a list as texts, from place k on
unfoldable pub texts_at : ℕ → List (List ℕ) → List Text
texts_at k [] = []
texts_at k (w ∷ ws) = text_for k w ∷ texts_at (k + 1) ws

pub placed-texts : (f : ℕ → ℕ) (d k : ℕ) (es : List Counted) → ((i : ℕ) → i < length es → f (k + i) ≡ get_or (map (λ (e : Counted). e.line) es) i d)
    → map (text_at f) (texts_at k (map (λ (e : Counted). e.text) es)) ≡ map text_of es
unfolding texts_at
placed-texts f d k [] h = refl
placed-texts f d k (e ∷ es) h =
    let here : f k ≡ e.line = from (k + 0) (h 0 (omega arith)) (omega arith) in
    let more = placed-texts f d (k + 1) es (λ i q. from (k + suc i) (h (suc i) (omega arith)) (omega arith)) in
    rw (text_at_lem f k e.text, here, more)
  where
    from : (a : ℕ) {x b : ℕ} → f a ≡ b → a ≡ x → f x ≡ b
    from a q p = ap f (sym p) ∙ q
