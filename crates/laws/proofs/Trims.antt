-- `trim`: from the end, one element at a time; what is left is a part, over any element and test.
use Prim.Native.Nat.{ℕ, zero, suc, ◌-◌, ◌≤◌, ◌<◌}
use mathlib.Core.Path.{◌≡◌, refl, sym, ap, ◌∙◌}
use mathlib.Core.List.{List, [], ◌∷◌, ◌++◌}
use mathlib.Core.Bool.{Bool, true, false, cond}
use native.Mathlib.Nat.{not-suc-le-zero}
use native.Mathlib.Omega.{arith}
use lib.ListN.{length, take, get_or, length-take}
use Rattle.laws.specs.Lists.{keep, trim}
use Rattle.laws.proofs.Lists.{take-down}

module _ {A : Type 0} (p : A → Bool) where
  -- one element more at the end: it is cut, or all stays
  pub trim-cut : (b : A) (l : List A) → p b ≡ true → trim p (l ++ (b ∷ [])) ≡ trim p l
  unfolding trim keep
  trim-cut b [] h = rw h
  trim-cut b (x ∷ xs) h = ap (keep p x) (trim-cut b xs h)

  keep_some : (x b : A) (l : List A) → keep p x (l ++ (b ∷ [])) ≡ x ∷ l ++ (b ∷ [])
  unfolding keep
  keep_some x b [] = refl
  keep_some x b (y ∷ ys) = refl

  pub trim-kept : (b : A) (l : List A) → p b ≡ false → trim p (l ++ (b ∷ [])) ≡ l ++ (b ∷ [])
  unfolding trim keep
  trim-kept b [] h = rw h
  trim-kept b (x ∷ xs) h = ap (keep p x) (trim-kept b xs h) ∙ keep_some x b xs

  -- the same, with the elements before place i
  pub trim-more : (l : List A) (i : ℕ) (d : A) → 0 < i → i ≤ length l → p (get_or l (i - 1) d) ≡ true
      → trim p (take i l) ≡ trim p (take (i - 1) l)
  trim-more l i d h k e = ap (trim p) (take-down l i d h k) ∙ trim-cut (get_or l (i - 1) d) (take (i - 1) l) e

  pub trim-stop : (l : List A) (i : ℕ) (d : A) → 0 < i → i ≤ length l → p (get_or l (i - 1) d) ≡ false → trim p (take i l) ≡ take i l
  trim-stop l i d h k e =
      ap (trim p) (take-down l i d h k) ∙ trim-kept (get_or l (i - 1) d) (take (i - 1) l) e ∙ sym (take-down l i d h k)

  pub trim-none : (l : List A) (i : ℕ) → i ≤ 0 → length (trim p (take i l)) ≡ i
  unfolding trim
  trim-none l zero h = refl
  trim-none l (suc i) h = absurd (not-suc-le-zero h)

  -- what is left is a part
  keep-take : (b : A) (l m : List A) → take (length m) l ≡ m → take (length (keep p b m)) (b ∷ l) ≡ keep p b m
  unfolding keep
  keep-take b l [] h =
      elim (p b) as (λ (t : Bool). take (length (cond t [] (b ∷ []))) (b ∷ l) ≡ cond t [] (b ∷ [])) [ true ↦ refl | false ↦ refl ]
  keep-take b l (x ∷ xs) h = ap (λ (k : List A). b ∷ k) h

  pub trim-take : (l : List A) → take (length (trim p l)) l ≡ trim p l
  unfolding trim
  trim-take [] = refl
  trim-take (b ∷ bs) = keep-take b bs (trim p bs) (trim-take bs)

  pub trim-le : (l : List A) → length (trim p l) ≤ length l
  trim-le l = omega (arith, sym (ap length (trim-take l)) ∙ length-take (length (trim p l)) l)
