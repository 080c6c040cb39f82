-- The texts of the same lines with other numbers, by induction over the lines.
use Prim.Native.Nat.{ℕ, suc, ◌+◌, ◌<◌}
use mathlib.Core.Path.{◌≡◌, refl, sym, ap, ◌∙◌}
use mathlib.Core.List.{List, [], ◌∷◌, map}
use native.Mathlib.Omega.{arith}
use lib.ListN.{length}
use Rattle.laws.proofs.Tests.{by-test}
use Rattle.lines.specs.Lines.{Physical, cut}
use Rattle.cut_lines.specs.Change.{is_change, change_of}
use Rattle.cut_lines.specs.Texts.{Text, plain, change, onto_texts, texts_from}
use Rattle.laws.specs.Said.{or_else}

-- f is the new number of each line
abbrev pub text_at : (ℕ → ℕ) → Text → Text
text_at f (plain k w) = plain (f k) w
text_at f (change k x) = change (f k) x

onto-map : (f : ℕ → ℕ) (k : ℕ) (w : List ℕ) (ts : List Text) → map (text_at f) (onto_texts k w ts) ≡ onto_texts (f k) w (map (text_at f) ts)
unfolding onto_texts
onto-map f k [] ts = refl
onto-map f k (b ∷ bs) ts = refl

-- f takes the lines from k on to those from j on
pub texts-map : (f : ℕ → ℕ) (c k j : ℕ) (ls : List Physical) → ((i : ℕ) → i < length ls → f (k + i) ≡ j + i)
    → map (text_at f) (texts_from c k ls) ≡ texts_from c j ls
unfolding texts_from
texts-map f c k j [] h = refl
texts-map f c k j (l ∷ ls) h =
    let here : f k ≡ j = from (k + 0) (j + 0) (h 0 (omega arith)) (omega arith) (omega arith) in
    let more : (d : ℕ) → map (text_at f) (texts_from d (k + 1) ls) ≡ texts_from d (j + 1) ls =
    λ d. texts-map f d (k + 1) (j + 1) ls (λ i q. from (k + suc i) (j + suc i) (h (suc i) (omega arith)) (omega arith) (omega arith)) in
    by-test (is_change l.bytes)
    (λ t. rw t (rw (here, more (or_else c (change_of l.bytes)))))
    (λ t. rw t (onto-map f k (cut c l.bytes) (texts_from c (k + 1) ls) ∙ rw (here, more c)))
  where
    from : (a b : ℕ) → f a ≡ b → {x y : ℕ} → a ≡ x → b ≡ y → f x ≡ y
    from a b q p r = ap f (sym p) ∙ q ∙ r
