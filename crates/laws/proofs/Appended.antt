-- Fronts and ends of a list with more behind it: where its front ends within it, where it goes beyond, and what is trimmed. By induction over the list.
use mathlib.Core.Path.{◌≡◌, refl, sym, ap, ◌∙◌}
use mathlib.Core.List.{List, [], ◌∷◌, ◌++◌, append-nil}
use mathlib.Core.Bool.{Bool, true}
use Prim.Native.Nat.{ℕ}
use Rattle.laws.specs.Lists.{front, after, keep, trim, all, among}
use Rattle.laws.proofs.Tests.{by-test, cond_yes, and_first, and_second, impossible}
use Rattle.laws.proofs.Fronts.{front-after}
use lib.Dec.{eqb}
use borrow.Author.Tests.{eqb-true}

module _ {A : Type 0} (p : A → Bool) where
  -- ---- the front ends within the list

  pub front-within : (l r : List A) (b : A) (bs : List A) → after p l ≡ b ∷ bs → front p (l ++ r) ≡ front p l
  unfolding front after
  front-within [] r b bs e = impossible (cc)
  front-within (x ∷ l) r b bs e =
      by-test (p x)
      (λ t. rw t (ap (λ (m : List A). x ∷ m) (front-within l r b bs (rw t at e))))
      (λ t. rw t)

  pub after-within : (l r : List A) (b : A) (bs : List A) → after p l ≡ b ∷ bs → after p (l ++ r) ≡ b ∷ (bs ++ r)
  unfolding after
  after-within [] r b bs e = impossible (cc)
  after-within (x ∷ l) r b bs e =
      by-test (p x)
      (λ t. rw t (after-within l r b bs (rw t at e)))
      (λ t. let q : x ∷ l ≡ b ∷ bs = rw t at e in rw t (ap (λ (m : List A). m ++ r) q))

  -- ---- it goes beyond the list

  pub whole-front : (l : List A) → after p l ≡ [] → front p l ≡ l
  whole-front l e = sym (append-nil (front p l)) ∙ ap (λ (m : List A). front p l ++ m) (sym e) ∙ front-after p l

  pub front-beyond : (l r : List A) → after p l ≡ [] → front p (l ++ r) ≡ l ++ front p r
  unfolding front after
  front-beyond [] r e = refl
  front-beyond (x ∷ l) r e =
      by-test (p x)
      (λ t. rw t (ap (λ (m : List A). x ∷ m) (front-beyond l r (rw t at e))))
      (λ t. let q : x ∷ l ≡ [] = rw t at e in impossible (cc))

  pub after-beyond : (l r : List A) → after p l ≡ [] → after p (l ++ r) ≡ after p r
  unfolding after
  after-beyond [] r e = refl
  after-beyond (x ∷ l) r e =
      by-test (p x)
      (λ t. rw t (after-beyond l r (rw t at e)))
      (λ t. let q : x ∷ l ≡ [] = rw t at e in impossible (cc))

  -- ---- what passes at the end is trimmed

  trim-all : (l : List A) → all p l ≡ true → trim p l ≡ []
  unfolding trim keep all
  trim-all [] h = refl
  trim-all (b ∷ bs) h = rw (trim-all bs (and_second (p b) _ h)) (cond_yes _ _ (and_first (p b) _ h))

  pub trim_end : (l r : List A) → all p r ≡ true → trim p (l ++ r) ≡ trim p l
  unfolding trim
  trim_end [] r h = trim-all r h
  trim_end (b ∷ bs) r h = ap (keep p b) (trim_end bs r h)

-- ---- what every byte of a list passes, one among them does

pub among-all : (p : ℕ → Bool) (b : ℕ) (l : List ℕ) → among b l ≡ true → all p l ≡ true → p b ≡ true
unfolding among all
among-all p b [] h a = impossible (cc)
among-all p b (x ∷ xs) h a =
    by-test (eqb b x)
    (λ t. ap p (eqb-true b x t) ∙ and_first (p x) _ a)
    (λ t. among-all p b xs (rw t at h) (and_second (p x) _ a))
