-- Which elements a list has: through `map`, `reverse`, `++` and a test. By induction on the list.
use mathlib.Core.Path.{◌≡◌, refl, sym, ap, ap₂, subst, ◌∙◌}
use mathlib.Core.List.{List, [], ◌∷◌, ◌++◌, map, reverse, reverse-cons}
use mathlib.Core.Logic.{◌⊎◌, inl, inr, ⊎_elim}
use mathlib.Core.Bool.{Bool, true}
use Rattle.laws.specs.Lists.{Every}
use Rattle.laws.proofs.Tests.{by-test, cond_yes, cond_no}
use Rattle.layout_by_notes.specs.Lies.{pick}
use Rattle.accepted_tables.specs.Facts.{Among, Unique}

module _ {A : Type 0} where
  pub every-at : (P : A → Type 0) (l : List A) (a : A) → Every P l → Among a l → P a
  every-at P [] a x m = absurd m
  every-at P (b ∷ l) a x (inl e) = subst P (sym e) x.0
  every-at P (b ∷ l) a x (inr m) = every-at P l a x.1 m

  pub among-left : (a : A) (l m : List A) → Among a l → Among a (l ++ m)
  among-left a [] m x = absurd x
  among-left a (b ∷ l) m (inl e) = inl e
  among-left a (b ∷ l) m (inr x) = inr (among-left a l m x)

  pub among-right : (a : A) (l m : List A) → Among a m → Among a (l ++ m)
  among-right a [] m x = x
  among-right a (b ∷ l) m x = inr (among-right a l m x)

  pub among-either : (a : A) (l m : List A) → Among a (l ++ m) → Among a l ⊎ Among a m
  among-either a [] m x = inr x
  among-either a (b ∷ l) m (inl e) = inl (inl e)
  among-either a (b ∷ l) m (inr x) = ⊎_elim (λ y. inl (inr y)) (λ y. inr y) (among-either a l m x)

  pub among-reverse : (a : A) (l : List A) → Among a l → Among a (reverse l)
  among-reverse a [] x = absurd x
  among-reverse a (b ∷ l) (inl e) = subst (Among a) (sym (reverse-cons b l)) (among-right a (reverse l) (b ∷ []) (inl e))
  among-reverse a (b ∷ l) (inr x) = subst (Among a) (sym (reverse-cons b l)) (among-left a (reverse l) (b ∷ []) (among-reverse a l x))

  pub reverse-among : (a : A) (l : List A) → Among a (reverse l) → Among a l
  reverse-among a [] x = x
  reverse-among a (b ∷ l) x =
      ⊎_elim (λ y. inr (reverse-among a l y)) (λ y. ⊎_elim (λ e. inl e) (λ z. absurd z) y) (among-either a (reverse l) (b ∷ []) (subst (Among a) (reverse-cons b l) x))

  pub among-pick : (p : A → Bool) (a : A) (l : List A) → p a ≡ true → Among a l → Among a (pick p l)
  unfolding pick
  among-pick p a [] t x = x
  among-pick p a (b ∷ l) t (inl e) = subst (Among a) (sym (cond_yes (b ∷ pick p l) (pick p l) (ap p (sym e) ∙ t))) (inl e)
  among-pick p a (b ∷ l) t (inr x) =
      by-test (p b)
      (λ q. subst (Among a) (sym (cond_yes (b ∷ pick p l) (pick p l) q)) (inr (among-pick p a l t x)))
      (λ q. subst (Among a) (sym (cond_no (b ∷ pick p l) (pick p l) q)) (among-pick p a l t x))

  pub pick-among : (p : A → Bool) (a : A) (l : List A) → Among a (pick p l) → (p a ≡ true) × Among a l
  unfolding pick
  pick-among p a [] x = absurd x
  pick-among p a (b ∷ l) x =
      by-test (p b)
      (λ q.
      ⊎_elim
      (λ e. (ap p e ∙ q, inl e))
      (λ y. let r = pick-among p a l y in (r.0, inr r.1))
      (subst (Among a) (cond_yes (b ∷ pick p l) (pick p l) q) x))
      (λ q. let r = pick-among p a l (subst (Among a) (cond_no (b ∷ pick p l) (pick p l) q) x) in (r.0, inr r.1))

  -- ---- what all elements have

  pub every_in : (P : A → Type 0) (l : List A) → ((a : A) → Among a l → P a) → Every P l
  every_in P [] f = tt
  every_in P (a ∷ l) f = (f a (inl refl), every_in P l (λ b x. f b (inr x)))

  -- ---- no two the same

  pub unique-last : (l : List A) (a : A) → Unique l → (Among a l → ⊥) → Unique (l ++ (a ∷ []))
  unique-last [] a u h = (λ x. x, tt)
  unique-last (b ∷ l) a u h = (
    λ x. ⊎_elim u.0 (λ y. ⊎_elim (λ e. h (inl (sym e))) (λ z. z) y) (among-either b l (a ∷ []) x),
    unique-last l a u.1 (λ x. h (inr x)),
  )

  pub unique-reverse : (l : List A) → Unique l → Unique (reverse l)
  unique-reverse [] u = tt
  unique-reverse (a ∷ l) u = subst Unique (sym (reverse-cons a l)) (unique-last (reverse l) a (unique-reverse l u.1) (λ x. u.0 (reverse-among a l x)))

module _ {A B : Type 0} (f : A → B) where
  pub among-map : (a : A) (l : List A) → Among a l → Among (f a) (map f l)
  among-map a [] x = x
  among-map a (b ∷ l) (inl e) = inl (ap f e)
  among-map a (b ∷ l) (inr x) = inr (among-map a l x)

  pub map-among : (b : B) (l : List A) → Among b (map f l) → (a : A) × Among a l × (b ≡ f a)
  map-among b [] x = absurd x
  map-among b (a ∷ l) (inl e) = (a, inl refl, e)
  map-among b (a ∷ l) (inr x) = let r = map-among b l x in (r.0, inr r.1, r.2)

pub map-through : {A B C : Type 0} (f : A → B) (g : B → C) (h : A → C) → ((a : A) → g (f a) ≡ h a) → (l : List A) → map g (map f l) ≡ map h l
map-through f g h e [] = refl
map-through f g h e (a ∷ l) = ap₂ (λ x xs. x ∷ xs) (e a) (map-through f g h e l)
