-- `front` and `after`: what a scan's place says of them. Three laws over any test prove every scanner.
use Prim.Native.Nat.{ℕ, suc, ◌+◌, ◌-◌, ◌≤◌, ◌<◌}
use mathlib.Core.Path.{◌≡◌, refl, sym, ap, ◌∙◌}
use mathlib.Core.List.{List, [], ◌∷◌, ◌++◌, map}
use mathlib.Core.Bool.{Bool, true, false, cond, not, ◌&&◌}
use native.Mathlib.Omega.{arith}
use lib.ListN.{length, take, drop, get_or, drop_of_length-le}
use lib.Seq.{take-take, drop-drop}
use lib.Dec.{eqb, ltb}
use borrow.Author.Tests.{eq-eqb, ne_eqb, eqb-true, eqb-false, lt-ltb, le-ltb, not-false}
use Rattle.laws.specs.Lists.{front, after, all, among, other, part}
use Rattle.laws.proofs.Tests.{by-test, by_order, cond_map, and_right, and_both, and_first, and_second}
use Rattle.laws.proofs.Lists.{from_cons}

module _ {A : Type 0} (p : A → Bool) where
  -- the element at i passes: the front from i on is longer by it
  pub front-more : (l : List A) (i : ℕ) (d : A) → i < length l → p (get_or l i d) ≡ true
      → i + 1 + length (front p (drop (i + 1) l)) ≡ i + length (front p (drop i l))
  unfolding front
  front-more l i d h e = rw (from_cons l i d h, e) (omega arith)

  -- it does not: the front ends here
  pub front-stop : (l : List A) (i : ℕ) (d : A) → i < length l → p (get_or l i d) ≡ false → i + length (front p (drop i l)) ≡ i
  unfolding front
  front-stop l i d h e = rw (from_cons l i d h, e) (omega arith)

  -- nothing is left
  pub front-end : (l : List A) (i : ℕ) → length l ≤ i → i + length (front p (drop i l)) ≡ i
  unfolding front
  front-end l i h = rw (drop_of_length-le l h) (omega arith)

  -- a front is a part, and what follows it is the rest
  pub front-take : (l : List A) → take (length (front p l)) l ≡ front p l
  unfolding front
  front-take [] = refl
  front-take (b ∷ bs) =
      elim (p b) as (λ (t : Bool). take (length (cond t (b ∷ front p bs) [])) (b ∷ bs) ≡ cond t (b ∷ front p bs) [])
      [ true ↦ ap (λ (l : List A). b ∷ l) (front-take bs) | false ↦ refl ]

  pub after-drop : (l : List A) → drop (length (front p l)) l ≡ after p l
  unfolding front after
  after-drop [] = refl
  after-drop (b ∷ bs) =
      elim (p b) as (λ (t : Bool). drop (length (cond t (b ∷ front p bs) [])) (b ∷ bs) ≡ cond t (after p bs) (b ∷ bs))
      [ true ↦ after-drop bs | false ↦ refl ]

  pub front-le : (l : List A) → length (front p l) ≤ length l
  unfolding front
  front-le [] = omega arith
  front-le (b ∷ bs) =
      elim (p b) as (λ (t : Bool). length (cond t (b ∷ front p bs) []) ≤ suc (length bs))
      [ true ↦ omega (arith, front-le bs) | false ↦ omega arith ]

  -- the two together are the list
  pub front-after : (l : List A) → front p l ++ after p l ≡ l
  unfolding front after
  front-after [] = refl
  front-after (b ∷ bs) =
      elim (p b) as (λ (t : Bool). cond t (b ∷ front p bs) [] ++ cond t (after p bs) (b ∷ bs) ≡ b ∷ bs)
      [ true ↦ ap (λ (l : List A). b ∷ l) (front-after bs) | false ↦ refl ]

  -- a front passes throughout, and what follows it begins with an element that does not pass
  pub front-all : (l : List A) → all p (front p l) ≡ true
  unfolding front all
  front-all [] = refl
  front-all (b ∷ bs) = by-test (p b) (λ h. simp (h, front-all bs)) (λ h. simp h)

  pub after-stops : (l : List A) (b : A) (bs : List A) → after p l ≡ b ∷ bs → p b ≡ false
  unfolding after
  after-stops [] b bs e = let z : ◌≡◌ {A = ℕ} 0 1 = cc in absurd (omega arith)
  after-stops (x ∷ xs) b bs e =
      by-test (p x)
      (λ h. after-stops xs b bs (simp h at e))
      (λ h. let k : x ∷ xs ≡ b ∷ bs = simp h at e in let q : x ≡ b = cc in rw (sym q) h)

  -- places: the scan from `at` stopped at `stop`
  pub after-at : (s : List A) (at stop : ℕ) → stop ≡ at + length (front p (drop at s)) → after p (drop at s) ≡ drop stop s
  after-at s at stop h =
      sym (after-drop (drop at s)) ∙ drop-drop (length (front p (drop at s))) at s ∙ ap (λ (k : ℕ). drop k s) (sym h)

  pub front_at : (s : List A) (at stop : ℕ) → stop ≡ at + length (front p (drop at s)) → part at stop s ≡ front p (drop at s)
  front_at s at stop h =
      let e : stop - at ≡ length (front p (drop at s)) = omega arith in
      ap (λ (k : ℕ). take k (drop at s)) e ∙ front-take (drop at s)

  -- within the front, a part of the list is a part of the front
  pub take-front : (l : List A) (m : ℕ) → m ≤ length (front p l) → take m l ≡ take m (front p l)
  take-front l m h = sym (take-take m (length (front p l)) l h) ∙ ap (take m) (front-take l)

  -- a front that stops where the test first fails, or with the list
  pub front-whole : (l : List A) → all p l ≡ true → front p l ≡ l
  unfolding front all
  front-whole [] h = refl
  front-whole (b ∷ bs) h =
      by-test (p b)
      (λ e. rw e (ap (λ (l : List A). b ∷ l) (front-whole bs (simp e at h))))
      (λ e. let z : false ≡ true = simp e at h in cc)

  pub front-before : (f : List A) (b : A) (l : List A) → all p f ≡ true → p b ≡ false → front p (f ++ b ∷ l) ≡ f
  unfolding front all
  front-before [] b l h e = rw e
  front-before (x ∷ f) b l h e =
      by-test (p x)
      (λ k. rw k (ap (λ (l : List A). x ∷ l) (front-before f b l (simp k at h) e)))
      (λ k. let z : false ≡ true = simp k at h in cc)

  -- ---- `all`, from a place on

  pub all_end : (l : List A) (i : ℕ) → length l ≤ i → all p (drop i l) ≡ true
  unfolding all
  all_end l i h = rw (drop_of_length-le l h)

  pub all-at : (l : List A) (i : ℕ) (d : A) → i < length l → all p (drop i l) ≡ (p (get_or l i d) && all p (drop (i + 1) l))
  unfolding all
  all-at l i d h = rw (from_cons l i d h)

-- a front of a front is the front by both tests
pub front-front : {A : Type 0} (p q r : A → Bool) → ((b : A) → r b ≡ (q b && p b)) → (l : List A) → front p (front q l) ≡ front r l
unfolding front
front-front p q r h [] = refl
front-front p q r h (b ∷ bs) =
    by-test (q b)
    (λ e. by-test (p b)
    (λ k. let z : r b ≡ true = h b ∙ rw (e, k) in rw (e, k, z) (ap (λ (m : List _). b ∷ m) (front-front p q r h bs)))
    (λ k. let z : r b ≡ false = h b ∙ rw (e, k) in rw (e, k, z)))
    (λ e. let z : r b ≡ false = h b ∙ rw e in rw (e, z))

-- ---- the test against one byte

pub other-no : (c b : ℕ) → b ≡ c → other c b ≡ false
unfolding other
other-no c b e = ap not (eq-eqb b c e)

pub other-yes : (c b : ℕ) → (b ≡ c → ⊥) → other c b ≡ true
unfolding other
other-yes c b e = ap not (ne_eqb b c e)

pub other-is : (c b : ℕ) → other c b ≡ false → b ≡ c
unfolding other
other-is c b h = eqb-true b c (not-false (eqb b c) h)

-- a byte is one of these exactly if a search for it stops before the end
pub among-found : (b : ℕ) (l : List ℕ) → among b l ≡ ltb (length (front (other b) l)) (length l)
unfolding among front other
among-found b [] = refl
among-found b (x ∷ l) =
    by-test (eqb x b)
    (λ e. rw (e, eq-eqb b x (sym (eqb-true x b e))) (sym (lt-ltb 0 (suc (length l)) (omega arith))))
    (λ e. rw (e, ne_eqb b x (λ q. eqb-false x b e (sym q))) (among-found b l ∙ step (length (front (other b) l)) (length l)))
  where
    step : (m n : ℕ) → ltb m n ≡ ltb (suc m) (suc n)
    step m n =
        by_order n m
        (λ h. le-ltb m n h ∙ sym (le-ltb (suc m) (suc n) (omega arith)))
        (λ h. lt-ltb m n h ∙ sym (lt-ltb (suc m) (suc n) (omega arith)))

module _ {A : Type 0} (p : A → Bool) where
  -- one element that fails
  pub all-fails : (f : List A) (b : A) (l : List A) → p b ≡ false → all p (f ++ b ∷ l) ≡ false
  unfolding all
  all-fails [] b l h = rw h
  all-fails (x ∷ f) b l h = rw (all-fails f b l h) (and_right (p x) false refl)

  -- the list, by where a scan stopped
  pub split_at : (s : List A) (at stop : ℕ) → stop ≡ at + length (front p (drop at s)) → drop at s ≡ front p (drop at s) ++ drop stop s
  split_at s at stop h = sym (front-after p (drop at s)) ∙ ap (λ (l : List A). front p (drop at s) ++ l) (after-at p s at stop h)

  -- what holds of a list holds of its two parts
  pub all_first : (f l : List A) → all p (f ++ l) ≡ true → all p f ≡ true
  unfolding all
  all_first [] l h = refl
  all_first (x ∷ f) l h = and_both (p x) (all p f) (and_first (p x) (all p (f ++ l)) h) (all_first f l (and_second (p x) (all p (f ++ l)) h))

  pub all-second : (f l : List A) → all p (f ++ l) ≡ true → all p l ≡ true
  unfolding all
  all-second [] l h = h
  all-second (x ∷ f) l h = all-second f l (and_second (p x) (all p (f ++ l)) h)

pub all_append : {A : Type 0} (p : A → Bool) (l m : List A) → all p l ≡ true → all p m ≡ true → all p (l ++ m) ≡ true
unfolding all
all_append p [] m h k = k
all_append p (b ∷ bs) m h k =
    and_both (p b) (all p (bs ++ m)) (and_first (p b) (all p bs) h) (all_append p bs m (and_second (p b) (all p bs) h) k)

-- of a list whose elements were changed, where the test does not look at the change
pub front-map : {A B : Type 0} (p : B → Bool) (q : A → Bool) (g : A → B) → ((a : A) → p (g a) ≡ q a) → (l : List A) → front p (map g l) ≡ map g (front q l)
unfolding front
front-map p q g e [] = refl
front-map p q g e (a ∷ l) =
    ap (λ (t : Bool). cond t (g a ∷ front p (map g l)) []) (e a)
    ∙ ap (λ (m : List _). cond (q a) (g a ∷ m) []) (front-map p q g e l)
    ∙ sym (cond_map (map g) (q a) (a ∷ front q l) [])
