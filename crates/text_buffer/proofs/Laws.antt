-- Laws of `specs/Put.antt`: one text put behind another, and a text put at once.
use Prim.Native.Nat.{ℕ, suc, ◌+◌, ◌-◌, ◌≤◌, min}
use mathlib.Core.Path.{◌≡◌, refl, sym, ap, ◌∙◌}
use mathlib.Core.List.{List, [], ◌∷◌, ◌++◌}
use native.Mathlib.Omega.{arith}
use native.Mathlib.Numerals.{add-one}
use native.Mathlib.Nat.{min-eq_left, min-eq_right, le_of_lt, add-zero}
use borrow.Rule.Slice.PartMut.{put_mid}
use lib.ListN.{length, take, drop, set, length-set, length-take, take-append-drop}
use lib.Seq.{sets, length-sets, set_out, sets-eq, drop-drop, take_all}
use borrow.Author.Tests.{lt-ltb, le-ltb}
use Rattle.laws.proofs.Tests.{by_order, cond_yes, cond_no}
use Rattle.std.proofs.Common.{append_assoc}
use Rattle.text_buffer.specs.Put.{Put, Sheet, put, put_one}

-- ---- stores past the end, and one after the other

sets-out : (l : List ℕ) (i : ℕ) (vs : List ℕ) → length l ≤ i → sets l i vs ≡ l
sets-out l i [] h = refl
sets-out l i (v ∷ vs) h = rw (set_out l i v h) (sets-out l (suc i) vs (omega arith))

sets-append : (l : List ℕ) (i : ℕ) (xs ys : List ℕ) → sets (sets l i xs) (i + length xs) ys ≡ sets l i (xs ++ ys)
sets-append l i [] ys = rw (add-zero i) refl
sets-append l i (x ∷ xs) ys =
    let e : i + length (x ∷ xs) ≡ suc i + length xs = omega arith in
    rw e (sets-append (set l i x) (suc i) xs ys)

sets-stop : (l : List ℕ) (i : ℕ) (xs ys : List ℕ) → sets (sets l i xs) (min (i + length xs) (length l)) ys ≡ sets l i (xs ++ ys)
sets-stop l i xs ys =
    by_order (i + length xs) (length l)
    (λ h. rw (min-eq_left h) (sets-append l i xs ys))
    (λ h.
    let n : length (sets l i xs) ≡ length l = length-sets l i xs in
    rw (min-eq_right (le_of_lt h))
    (sets-out (sets l i xs) (length l) ys (omega arith) ∙ sym (sets-out (sets l i xs) (i + length xs) ys (omega arith)) ∙ sets-append l i xs ys))

-- what is left of a text, once the part that has room is stored
sets-rest : (l : List ℕ) (i n : ℕ) (xs : List ℕ) → i ≤ length l → n ≡ min (length xs) (length l - i) → sets l i (take n xs) ≡ sets l i xs
sets-rest l i n xs h e =
    let k : length (sets l i (take n xs)) ≡ length l = length-sets l i (take n xs) in
    let j : length (take n xs) ≡ n = omega (arith, length-take n xs) in
    by_order (length xs) n
    (λ g. ap (sets l i) (take_all n xs g))
    (λ g. sym (sets-out (sets l i (take n xs)) (min (i + length (take n xs)) (length l)) (drop n xs) (omega arith)) ∙ sets-stop l i (take n xs) (drop n xs) ∙ ap (sets l i) (take-append-drop n xs))

-- ---- what is put on a page

-- one text behind another
pub put_append : (xs ys : List ℕ) (s : Sheet) → put (xs ++ ys) s ≡ put ys (put xs s)
put_append [] ys s = refl
put_append (x ∷ xs) ys s = put_append xs ys (put_one x s)

-- the same text under another name
pub put-text : {xs ys : List ℕ} (s : Sheet) → xs ≡ ys → put xs s ≡ put ys s
put-text s e = ap (λ (t : List ℕ). put t s) e

-- with no room every byte is left out
put-full : (xs : List ℕ) (s : Sheet) → length s.bytes ≤ s.at → put xs s ≡ s
unfolding put_one
put-full [] s h = refl
put-full (x ∷ xs) s h = ap (put xs) (cond_no _ _ (le-ltb s.at (length s.bytes) h)) ∙ put-full xs s h

-- all of a text at once
stores : List ℕ → Sheet → Sheet
stores xs s = record { bytes = sets s.bytes s.at xs; at = min (s.at + length xs) (length s.bytes); lent = s.lent }

put-stores : (xs : List ℕ) (s : Sheet) → s.at ≤ length s.bytes → put xs s ≡ stores xs s
unfolding put_one stores
put-stores [] s h = let p : s.at ≡ min (s.at + 0) (length s.bytes) = omega arith in λ i. record { bytes = s.bytes; at = p i; lent = s.lent }
put-stores (x ∷ xs) s h =
    by_order (length s.bytes) s.at
    (λ g.
    let o : put_one x s ≡ s = cond_no _ _ (le-ltb s.at (length s.bytes) g) in
    let b : sets s.bytes s.at xs ≡ sets s.bytes s.at (x ∷ xs) = sets-out s.bytes s.at xs g ∙ sym (sets-out s.bytes s.at (x ∷ xs) g) in
    let p : min (s.at + length xs) (length s.bytes) ≡ min (s.at + length (x ∷ xs)) (length s.bytes) = omega arith in
    ap (put xs) o ∙ put-stores xs s h ∙ (λ i. record { bytes = b i; at = p i; lent = s.lent }))
    (λ g.
    let r : Sheet = record s { bytes = set s.bytes s.at x; at = s.at + 1 } in
    let o : put_one x s ≡ r = cond_yes _ _ (lt-ltb s.at (length s.bytes) g) in
    let n : length (set s.bytes s.at x) ≡ length s.bytes = length-set s.bytes s.at x in
    let p : min (s.at + 1 + length xs) (length (set s.bytes s.at x)) ≡ min (s.at + length (x ∷ xs)) (length s.bytes) = omega arith in
    ap (put xs) o ∙ put-stores xs r (omega (arith, n)) ∙ (λ i. record { bytes = sets (set s.bytes s.at x) (add-one s.at i) xs; at = p i; lent = s.lent }))

-- a page stays over the buffer that was lent
pub put-lent : (xs : List ℕ) (s : Sheet) → s.at ≤ length s.bytes → (put xs s).lent ≡ s.lent
unfolding stores
put-lent xs s h = ap (λ (t : Sheet). t.lent) (put-stores xs s h)

-- the part of a text that has room, stored at once
pub put_part : (xs ys : List ℕ) (n k : ℕ) (s : Sheet) → s.at ≤ length s.bytes → n ≡ min (length xs) (length s.bytes - s.at) → k ≡ n → ys ≡ take n xs
    → record { bytes = put_mid s.at k s.bytes ys; at = s.at + n; lent = s.lent } ≡ put xs s
unfolding stores
put_part xs ys n k s h e f t =
    let l : length (take n xs) ≡ n = omega (arith, length-take n xs) in
    let p : s.at + n ≡ min (s.at + length xs) (length s.bytes) = omega arith in
    let j : s.at + k ≡ s.at + length (take n xs) = omega arith in
    let d : drop k (drop s.at s.bytes) ≡ drop (s.at + length (take n xs)) s.bytes = drop-drop k s.at s.bytes ∙ ap (λ (k : ℕ). drop k s.bytes) j in
    let w : sets s.bytes s.at (take n xs) ≡ take s.at s.bytes ++ (take n xs ++ drop (s.at + length (take n xs)) s.bytes) =
    sets-eq (take n xs) s.bytes s.at (omega arith) ∙ append_assoc (take s.at s.bytes) (take n xs) _ in
    let m : put_mid s.at k s.bytes ys ≡ take s.at s.bytes ++ (take n xs ++ drop (s.at + length (take n xs)) s.bytes) = λ i. take s.at s.bytes ++ (t i ++ d i) in
    let r : put_mid s.at k s.bytes ys ≡ sets s.bytes s.at xs = m ∙ sym w ∙ sets-rest s.bytes s.at n xs h e in
    (λ i. record { bytes = r i; at = p i; lent = s.lent }) ∙ sym (put-stores xs s h)

-- what a page writes, as a text put into its buffer
pub written_put : (xs : List ℕ) (s t : Sheet) → s.at ≤ length s.bytes → t ≡ put xs s → Put s.bytes t.bytes s.at xs t.at
unfolding stores
written_put xs s t h e =
    let q : t ≡ stores xs s = e ∙ put-stores xs s h in
    let b : t.bytes ≡ sets s.bytes s.at xs = ap (λ (u : Sheet). u.bytes) q in
    let a : t.at ≡ min (s.at + length xs) (length s.bytes) = ap (λ (u : Sheet). u.at) q in
    record { written = b; stop = a; within = omega (arith, ap length b, length-sets s.bytes s.at xs) }

-- a buffer keeps its length
pub put-kept : {a b : List ℕ} {at r : ℕ} {xs : List ℕ} → Put a b at xs r → length b ≡ length a
put-kept {a} {b} {at} {r} {xs} p = ap length p.written ∙ length-sets a at xs

-- the same from any place on, of a page whose text begins there or at the buffer's end
pub put-at : (xs l : List ℕ) (i : ℕ) (s t : Sheet) → s.bytes ≡ l → s.at ≡ min i (length l) → t ≡ put xs s → t.bytes ≡ sets l i xs
put-at xs l i s t e a p =
    let w : t.bytes ≡ sets s.bytes s.at xs = (written_put xs s t (omega (arith, ap length e)) p).written in
    let z : min i (length l) ≡ min (i + length {A = ℕ} []) (length l) = omega arith in
    w ∙ ap (λ (m : List ℕ). sets m s.at xs) e ∙ ap (λ (k : ℕ). sets l k xs) (a ∙ z) ∙ sets-stop l i [] xs

-- ---- a column: what fills it behind a text, counted from where the text began

-- where the text had room, that is its length; where it had none, nothing behind it has room either
pub put-filled : (fill : ℕ → List ℕ) (text : List ℕ) (s t u : Sheet) → s.at ≤ length s.bytes → t ≡ put text s → u ≡ put (fill (t.at - s.at)) t → u ≡ put (text ++ fill (length text)) s
unfolding stores
put-filled fill text s t u h p q =
    let k : t ≡ stores text s = p ∙ put-stores text s h in
    let a : t.at ≡ min (s.at + length text) (length s.bytes) = ap (λ (v : Sheet). v.at) k in
    let b : length t.bytes ≡ length s.bytes = ap (λ (v : Sheet). length v.bytes) k ∙ length-sets s.bytes s.at text in
    let all : put (text ++ fill (length text)) s ≡ put (fill (length text)) t = put_append text (fill (length text)) s ∙ ap (put (fill (length text))) (sym p) in
    by_order (s.at + length text) (length s.bytes)
    (λ g.
    let e : t.at - s.at ≡ length text = omega arith in
    q ∙ put-text t (ap fill e) ∙ sym all)
    (λ g.
    let f : length t.bytes ≤ t.at = omega arith in
    q ∙ put-full (fill (t.at - s.at)) t f ∙ sym (put-full (fill (length text)) t f) ∙ sym all)
