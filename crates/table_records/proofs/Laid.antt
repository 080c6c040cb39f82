-- The record at a place of a table: records of so many words each lie one after the other, so that a place is a multiple of their size.
use Prim.Native.Nat.{ℕ, zero, suc, ◌+◌, ◌*◌, ◌/◌, ◌≤◌, ◌<◌}
use mathlib.Core.Path.{◌≡◌, sym, ap, ◌∙◌}
use mathlib.Core.List.{List, [], ◌∷◌, ◌++◌, flat_map, append_assoc}
use native.Mathlib.Nat.{le-div_iff_mul-le, mul-le-mul_right, zero-mul, suc-mul, not-suc-le-zero, le_of_suc-le-suc}
use native.Mathlib.Omega.{arith}
use lib.ListN.{length, take, drop, get_or, length-append}
use lib.Seq.{take_at, drop_at, drop-drop}
use Rattle.records.specs.Stored.{over}
use Rattle.table_records.specs.Values.{record_at}
use Rattle.table_records.proofs.Places.{record-there}

module _ {A : Type 0} (words : A → List ℕ) (size : ℕ) (some : 0 < size) (sized : (x : A) → length (words x) ≡ size) where
  flat-length : (xs : List A) → length (flat_map words xs) ≡ length xs * size
  unfolding flat_map
  flat-length [] = sym (zero-mul size)
  flat-length (x ∷ xs) = omega (arith, length-append (words x) (flat_map words xs), sized x, flat-length xs, suc-mul (length xs) size)

  words-at : (xs : List A) (rest : List ℕ) (k : ℕ) (d : A) → k < length xs → take size (drop (k * size) (flat_map words xs ++ rest)) ≡ words (get_or xs k d)
  unfolding flat_map
  words-at [] rest k d h = absurd (not-suc-le-zero h)
  words-at (x ∷ xs) rest zero d h =
      ap (λ (n : ℕ). take size (drop n (flat_map words (x ∷ xs) ++ rest))) (zero-mul size)
      ∙ ap (take size) (append_assoc (words x) (flat_map words xs) rest)
      ∙ take_at (words x) (flat_map words xs ++ rest) size (sized x)
  words-at (x ∷ xs) rest (suc k) d h =
      let e : suc k * size ≡ size + k * size = omega (arith, suc-mul k size) in
      ap (λ (l : List ℕ). take size (drop (suc k * size) l)) (append_assoc (words x) (flat_map words xs) rest)
      ∙ ap (λ (n : ℕ). take size (drop n (words x ++ (flat_map words xs ++ rest)))) e
      ∙ ap (take size) (sym (drop-drop (k * size) size (words x ++ (flat_map words xs ++ rest))))
      ∙ ap (λ (l : List ℕ). take size (drop (k * size) l)) (drop_at (words x) (flat_map words xs ++ rest) size (sized x))
      ∙ words-at xs rest k d (le_of_suc-le-suc h)

  pub record-back : (xs : List A) (table : List ℕ) (k : ℕ) (d : A) → k < length xs → record_at size (over table (flat_map words xs)) k ≡ words (get_or xs k d)
  unfolding over
  record-back xs table k d h =
      let rest = drop (length (flat_map words xs)) table in
      let l : length (flat_map words xs ++ rest) ≡ length xs * size + length rest = omega (arith, length-append (flat_map words xs) rest, flat-length xs) in
      let m : suc k * size ≤ length xs * size = mul-le-mul_right size h in
      let room : suc k ≤ length (flat_map words xs ++ rest) / size = (le-div_iff_mul-le some).1 (omega (arith, l, m)) in
      record-there size (flat_map words xs ++ rest) k room ∙ words-at xs rest k d h
