-- `stored` and `over`: rows behind rows, one row at the front of the row store, and what is written into the rest of it, said of the whole.
use Prim.Native.Nat.{ℕ, ◌+◌, ◌*◌, ◌-◌, ◌≤◌}
use mathlib.Core.Path.{◌≡◌, refl, sym, ap, ap₂, ◌∙◌}
use mathlib.Core.List.{List, [], ◌∷◌, ◌++◌, append_assoc, append-nil}
use native.Mathlib.Omega.{arith}
use lib.ListN.{length, take, drop, set, length-append, length-take, length-drop, drop_of_length-le}
use lib.Seq.{take_all, drop-drop, take_at, drop_at}
use borrow.Rule.Slice.PartMut.{put_mid, mid_of, post_of}
use Rattle.records.specs.Stored.{row_words, stored, over}
use Rattle.records.specs.declared.Row.{Row}

-- four words at the front
pub over-four : (l : List ℕ) (a b c d : ℕ) → 4 ≤ length l → set (set (set (set l 0 a) 1 b) 2 c) 3 d ≡ over l (a ∷ b ∷ c ∷ d ∷ [])
unfolding over
over-four [] a b c d h = absurd (omega arith)
over-four (p ∷ []) a b c d h = absurd (omega arith)
over-four (p ∷ q ∷ []) a b c d h = absurd (omega arith)
over-four (p ∷ q ∷ r ∷ []) a b c d h = absurd (omega arith)
over-four (p ∷ q ∷ r ∷ s ∷ l) a b c d h = refl

-- rows behind rows
pub stored-append : (l m : List Row) → stored (l ++ m) ≡ stored l ++ stored m
unfolding stored
stored-append [] m = refl
stored-append (r ∷ l) m = ap (λ (x : List ℕ). row_words r ++ x) (stored-append l m) ∙ sym (append_assoc (row_words r) (stored l) (stored m))

-- four words a row
pub stored-length : (l : List Row) → length (stored l) ≡ 4 * length l
unfolding stored
stored-length [] = refl
stored-length (r ∷ l) = let e : length (stored l) ≡ 4 * length l = stored-length l in omega (arith, length-append (row_words r) (stored l), e)

-- nothing is written
pub over_none : {A : Type 0} (l : List A) → over l [] ≡ l
unfolding over
over_none l = refl

-- what is written keeps the length
pub over-length : {A : Type 0} (l v : List A) → length v ≤ length l → length (over l v) ≡ length l
unfolding over
over-length l v h = omega (arith, length-append v (drop (length v) l), length-drop (length v) l)

-- the part lent from n on has room for k words
pub rest-room : (m : List ℕ) (n k : ℕ) → n + k ≤ length m → k ≤ length (mid_of n (length m - n) m)
rest-room m n k h = omega (arith, length-take (length m - n) (drop n m), length-drop n m)

-- v is written behind w, into the part lent from n on
module _ (l w v : List ℕ) (n : ℕ) (e : n ≡ length w) (h : n ≤ length l) where
  over-front : take n (over l w) ≡ w
  unfolding over
  over-front = take_at w (drop (length w) l) n (sym e)

  over-behind : drop n (over l w) ≡ drop n l
  unfolding over
  over-behind = drop_at w (drop (length w) l) n (sym e) ∙ ap (λ (k : ℕ). drop k l) (sym e)

  pub over-lent : (m : List ℕ) → m ≡ over l w → mid_of n (length m - n) m ≡ drop n l
  over-lent m q =
      take_all (length m - n) (drop n m) (omega (arith, length-drop n m))
      ∙ ap (drop n) q
      ∙ over-behind

  pub over-rest : (m : List ℕ) → m ≡ over l w → put_mid n (length m - n) m (over (mid_of n (length m - n) m) v) ≡ over l (w ++ v)
  unfolding over
  over-rest m q =
      let j : length (drop n m) ≤ length m - n = omega (arith, length-drop n m) in
      let z : post_of n (length m - n) m ≡ [] = drop_of_length-le (drop n m) j in
      let k : n + length v ≡ length (w ++ v) = omega (arith, length-append w v) in
      ap₂ (λ (f t : List ℕ). f ++ t) (ap (take n) q ∙ over-front)
      (ap₂ (λ (x y : List ℕ). (v ++ drop (length v) x) ++ y) (over-lent m q) z
      ∙ append-nil (v ++ drop (length v) (drop n l)))
      ∙ sym (append_assoc w v (drop (length v) (drop n l)))
      ∙ ap (λ (t : List ℕ). (w ++ v) ++ t) (drop-drop (length v) n l ∙ ap (λ (i : ℕ). drop i l) k)
