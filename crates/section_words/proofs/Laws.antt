-- Words written at a place of a table: in parts, behind others, and over a whole table.
use Prim.Native.Nat.{ℕ, suc, ◌+◌, ◌≤◌}
use mathlib.Core.Path.{◌≡◌, refl, sym, ap, ap₂, ◌∙◌}
use mathlib.Core.List.{List, [], ◌∷◌, ◌++◌, append-nil}
use native.Mathlib.Omega.{arith}
use lib.ListN.{length, drop, set, length-append, drop_of_length-le}
use lib.Seq.{sets, sets-eq, take_at, drop_at, drop-drop}
use Rattle.records.specs.Stored.{over}
use Rattle.table_rows.proofs.Stores.{over-length}

-- what is written in two parts
pub sets-append : (t v w : List ℕ) (a : ℕ) → sets (sets t a v) (a + length v) w ≡ sets t a (v ++ w)
sets-append t [] w a = let e : a + 0 ≡ a = omega arith in rw e refl
sets-append t (x ∷ v) w a =
    let e : a + length (x ∷ v) ≡ suc a + length v = omega arith in
    rw e (sets-append (set t a x) v w (suc a))

-- n words stand at a, and the next part is written behind them
pub sets_more : (t t₁ t₂ x v y : List ℕ) (a n : ℕ) → t₁ ≡ sets t a x → t₂ ≡ sets t₁ (a + n) v → v ≡ y → n ≡ length x → t₂ ≡ sets t a (x ++ y)
sets_more t t₁ t₂ x v y a n first second is_y e =
    second ∙ ap₂ (λ (s r : List ℕ). sets s (a + n) r) first is_y ∙ ap (λ (i : ℕ). sets (sets t a x) (a + i) y) e ∙ sets-append t x y a

-- in three parts
module _ (t t₁ t₂ t₃ u v w x y z : List ℕ) (a m n : ℕ) where
  pub sets-three : t₁ ≡ sets t a u → t₂ ≡ sets t₁ (a + m) v → t₃ ≡ sets t₂ (a + n) w → u ≡ x → v ≡ y → w ≡ z → m ≡ length x → n ≡ length x + length y
      → t₃ ≡ sets t a ((x ++ y) ++ z)
  sets-three first second third is_x is_y is-z e f =
      sets_more t t₂ t₃ (x ++ y) w z a n (sets_more t t₁ t₂ x v y a m (first ∙ ap (sets t a) is_x) second is_y e) third is-z (f ∙ sym (length-append x y))

-- v is written behind a
pub over-sets : (t a v : List ℕ) (n : ℕ) → n ≡ length a → length a + length v ≤ length t → sets (over t a) n v ≡ over t (a ++ v)
unfolding over
over-sets t a v n e h =
    let d = drop (length a) t in
    let l : length (a ++ d) ≡ length t = over-length t a (omega (arith, h)) in
    let k : length a + length v ≡ length (a ++ v) = sym (length-append a v) in
    let r : drop (n + length v) (a ++ d) ≡ drop (length (a ++ v)) t = sym (drop-drop (length v) n (a ++ d)) ∙ ap (drop (length v)) (drop_at a d n (sym e)) ∙ drop-drop (length v) (length a) t ∙ ap (λ (i : ℕ). drop i t) k in
    sets-eq v (a ++ d) n (omega (arith, e, h, l)) ∙ ap₂ (λ (f g : List ℕ). (f ++ v) ++ g) (take_at a d n (sym e)) r

-- v is written at the front
pub sets-front : (t v : List ℕ) → length v ≤ length t → sets t 0 v ≡ over t v
unfolding over
sets-front t v h = over-sets t [] v 0 refl (omega (arith, h))

-- a whole table is written
pub sets-all : (t v : List ℕ) → length v ≡ length t → sets t 0 v ≡ v
sets-all t v e =
    let h : length t ≤ 0 + length v = omega (arith, e) in
    let z : drop (0 + length v) t ≡ [] = drop_of_length-le t h in
    sets-eq v t 0 (omega (arith, e)) ∙ ap (λ (g : List ℕ). v ++ g) z ∙ append-nil v
