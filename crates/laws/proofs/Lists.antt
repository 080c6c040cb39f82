-- Lists from a place on: one element more, parts and their lengths, over any element.
use Prim.Native.Nat.{ℕ, zero, suc, ◌+◌, ◌-◌, ◌≤◌, ◌<◌}
use mathlib.Core.Path.{◌≡◌, refl, sym, ap, ◌∙◌}
use mathlib.Core.List.{List, [], ◌∷◌, ◌++◌}
use native.Mathlib.Numerals.{add-one, sub-one}
use native.Mathlib.Nat.{not-suc-le-zero}
use native.Mathlib.Omega.{arith}
use lib.ListN.{length, take, drop, get_or, drop_of_length-le, length-take, length-drop}
use lib.Seq.{drop-cons, take_all, take-suc, take-nil, take-take, drop-drop, get_or-take, get_or-drop}
use Rattle.laws.specs.Lists.{part}

module _ {A : Type 0} where
  -- the element at i, and what follows it
  pub from_cons : (l : List A) (i : ℕ) (d : A) → i < length l → drop i l ≡ get_or l i d ∷ drop (i + 1) l
  from_cons l i d h = drop-cons l i d h ∙ ap (λ (j : ℕ). get_or l i d ∷ drop j l) (sym (add-one i))

  -- the elements before i, and the last of them
  pub take-down : (l : List A) (i : ℕ) (d : A) → 0 < i → i ≤ length l → take i l ≡ take (i - 1) l ++ (get_or l (i - 1) d ∷ [])
  take-down l zero d h k = absurd (not-suc-le-zero h)
  take-down l (suc i) d h k =
      take-suc l i d k ∙ ap (λ (j : ℕ). take j l ++ (get_or l j d ∷ [])) (sym (sub-one (suc i)))

  -- past the end one place more is the same
  pub past_end : (l : List A) (i : ℕ) → length l ≤ i → drop (i + 1) l ≡ drop i l
  past_end l i h =
      let k : length l ≤ i + 1 = omega arith in
      drop_of_length-le l k ∙ sym (drop_of_length-le l h)

  pub part_length : (s : List A) (a e : ℕ) → e ≤ length s → length (part a e s) ≡ e - a
  part_length s a e h = omega (arith, length-take (e - a) (drop a s), length-drop a s)

  pub part-le : (s : List A) (a e : ℕ) → length (part a e s) ≤ length s
  part-le s a e = omega (arith, length-take (e - a) (drop a s), length-drop a s)

  -- the first element of a part
  pub part-first : (s : List A) (a e : ℕ) (d : A) → a < e → get_or (part a e s) 0 d ≡ get_or s a d
  part-first s a e d h =
      let k : a + 0 ≡ a = omega arith in
      get_or-take (e - a) (drop a s) 0 d (omega arith) ∙ get_or-drop a s 0 d ∙ ap (λ (n : ℕ). get_or s n d) k

-- the part up to the end
pub part-rest : {A : Type 0} (s : List A) (a : ℕ) → part a (length s) s ≡ drop a s
part-rest s a = take_all (length s - a) (drop a s) (omega (arith, length-drop a s))

-- a list with no element
pub none_of : {A : Type 0} (l : List A) → length l ≡ 0 → l ≡ []
none_of [] h = refl
none_of (x ∷ xs) h = absurd (omega arith)

-- a part that ends where it begins, and one that ends a place later
pub part_none : {A : Type 0} (s : List A) (a : ℕ) → part a a s ≡ []
part_none s a =
    let e : a - a ≡ 0 = omega arith in
    ap (λ (k : ℕ). take k (drop a s)) e

pub part-more : {A : Type 0} (s : List A) (a e : ℕ) (d : A) → a ≤ e → e < length s → part a (e + 1) s ≡ part a e s ++ (get_or s e d ∷ [])
part-more s a e d h k =
    let n : e + 1 - a ≡ e - a + 1 = omega arith in
    let m : a + (e - a) ≡ e = omega arith in
    let l : e - a < length (drop a s) = omega (arith, length-drop a s) in
    ap (λ (j : ℕ). take j (drop a s)) (n ∙ add-one (e - a))
    ∙ take-suc (drop a s) (e - a) d l
    ∙ ap (λ (b : _). take (e - a) (drop a s) ++ (b ∷ [])) (get_or-drop a s (e - a) d ∙ ap (λ (j : ℕ). get_or s j d) m)

-- ---- parts of parts

pub drop-take : {A : Type 0} (l : List A) (i m : ℕ) → drop i (take m l) ≡ take (m - i) (drop i l)
drop-take l zero m = let e : m - 0 ≡ m = omega arith in rw e refl
drop-take [] (suc i) m = rw (take-nil {A = _} m) rw (take-nil {A = _} (m - suc i)) refl
drop-take (x ∷ xs) (suc i) zero = let e : 0 - suc i ≡ 0 = omega arith in rw e refl
drop-take (x ∷ xs) (suc i) (suc m) = let e : suc m - suc i ≡ m - i = omega arith in rw e (drop-take xs i m)

module _ {A : Type 0} (s : List A) (a e : ℕ) where
  pub part-from : (i : ℕ) → drop i (part a e s) ≡ part (a + i) e s
  part-from i =
      let n : e - a - i ≡ e - (a + i) = omega arith in
      drop-take (drop a s) i (e - a) ∙ (rw (drop-drop i a s) rw n refl)

  pub part-part : (i j : ℕ) → j ≤ e - a → part i j (part a e s) ≡ part (a + i) (a + j) s
  part-part i j h =
      let n : e - a - i ≡ e - (a + i) = omega arith in
      let m : a + j - (a + i) ≡ j - i = omega arith in
      let k : j - i ≤ e - (a + i) = omega (arith, h) in
      ap (take (j - i)) (part-from i) ∙ take-take (j - i) (e - (a + i)) (drop (a + i) s) k ∙ (rw m refl)
