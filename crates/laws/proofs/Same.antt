-- `eqs`: from a place on, with any function on the first list's bytes; that it is equality, and not of other lengths.
use Prim.Native.Nat.{ℕ, ◌+◌, ◌≤◌, ◌<◌}
use mathlib.Core.Path.{◌≡◌, refl, sym, ap, ap₂, ◌∙◌}
use mathlib.Core.List.{List, [], ◌∷◌, map}
use mathlib.Core.Bool.{Bool, true, false, ◌&&◌}
use lib.ListN.{length, take, drop, get_or, drop_of_length-le}
use lib.Seq.{take-length}
use lib.Dec.{eqb, leb}
use borrow.Author.Tests.{eq-eqb, ne_eqb, eqb-true, eqb-false, lt-leb, le-leb}
use Rattle.laws.specs.Lists.{front, eqs}
use Rattle.laws.proofs.Tests.{by-test, by_order}
use Rattle.laws.proofs.Lists.{from_cons}
use Rattle.laws.proofs.Fronts.{front-take}

module _ (f : ℕ → ℕ) (w n : List ℕ) (i : ℕ) where
  -- the second is shorter
  pub same-short : i < length w → length n ≤ i → eqs (map f (drop i w)) (drop i n) ≡ false
  unfolding eqs
  same-short h k = rw (from_cons w i 0 h, drop_of_length-le n k)

  -- the first ends here
  pub same_end : length w ≤ i → eqs (map f (drop i w)) (drop i n) ≡ leb (length n) i
  unfolding eqs
  same_end h =
      rw (drop_of_length-le w h)
      (by_order (length n) i
      (λ k. rw (drop_of_length-le n k, le-leb (length n) i k))
      (λ k. rw (from_cons n i 0 k, lt-leb (length n) i k)))

  same_at : i < length w → i < length n
      → eqs (map f (drop i w)) (drop i n) ≡ (eqb (f (get_or w i 0)) (get_or n i 0) && eqs (map f (drop (i + 1) w)) (drop (i + 1) n))
  unfolding eqs
  same_at h k = rw (from_cons w i 0 h, from_cons n i 0 k)

  pub same-differ : i < length w → i < length n → (f (get_or w i 0) ≡ get_or n i 0 → ⊥) → eqs (map f (drop i w)) (drop i n) ≡ false
  same-differ h k e = same_at h k ∙ rw (ne_eqb _ _ e)

  pub same-go : i < length w → i < length n → f (get_or w i 0) ≡ get_or n i 0
      → eqs (map f (drop (i + 1) w)) (drop (i + 1) n) ≡ eqs (map f (drop i w)) (drop i n)
  same-go h k e = sym (same_at h k ∙ rw (eq-eqb _ _ e))

-- the function that changes nothing
pub map_same : (l : List ℕ) → map (λ (b : ℕ). b) l ≡ l
map_same [] = refl
map_same (b ∷ l) = ap (λ (m : List ℕ). b ∷ m) (map_same l)

pub eqs-refl : (l : List ℕ) → eqs l l ≡ true
unfolding eqs
eqs-refl [] = refl
eqs-refl (a ∷ l) = rw (eq-eqb a a refl) (eqs-refl l)

pub eqs-eq : (l m : List ℕ) → eqs l m ≡ true → l ≡ m
unfolding eqs
eqs-eq [] [] h = refl
eqs-eq [] (b ∷ m) h = cc
eqs-eq (a ∷ l) [] h = cc
eqs-eq (a ∷ l) (b ∷ m) h =
    by-test (eqb a b)
    (λ e. ap₂ (λ (x : ℕ) (xs : List ℕ). x ∷ xs) (eqb-true a b e) (eqs-eq l m (simp e at h)))
    (λ e. let z : false ≡ true = simp e at h in cc)

-- lists of other lengths are not the same
pub eqs-apart : (l m : List ℕ) → (length l ≡ length m → ⊥) → eqs l m ≡ false
eqs-apart l m h = by-test (eqs l m) (λ e. absurd (h (ap length (eqs-eq l m e)))) (λ e. e)

-- a front is the list exactly if it is as long
pub front_same : (p : ℕ → Bool) (l : List ℕ) → eqs (front p l) l ≡ eqb (length (front p l)) (length l)
front_same p l =
    by-test (eqb (length (front p l)) (length l))
    (λ h.
    let n = eqb-true (length (front p l)) (length l) h in
    let e : front p l ≡ l = sym (front-take p l) ∙ ap (λ (k : ℕ). take k l) n ∙ take-length l in
    ap (λ (m : List ℕ). eqs m l) e ∙ eqs-refl l ∙ sym h)
    (λ h. eqs-apart (front p l) l (eqb-false (length (front p l)) (length l) h) ∙ sym h)
