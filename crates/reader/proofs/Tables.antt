-- A table filled record by record holds the new records, and then what stood behind.
use Prim.Native.Nat.{ℕ, zero, suc, ◌≤◌, ◌<◌}
use mathlib.Core.Path.{◌≡◌, refl, sym, ap, ◌∙◌}
use mathlib.Core.List.{List, [], ◌∷◌, ◌++◌, append_assoc}
use native.Mathlib.Omega.{arith}
use lib.ListN.{length, drop, set}
use lib.Seq.{set_at, drop-cons}
use Rattle.table_walks.specs.Filled.{filled_to}
use Rattle.records.specs.Stored.{over}
use Rattle.file_answer.specs.Sorted.{up_to}
use Rattle.file_answer.proofs.UpTo.{up_to-length}

filled-up_to : {A : Type 0} (f : ℕ → A) (n : ℕ) (xs : List A) → n ≤ length xs → filled_to f n xs ≡ up_to f n ++ drop n xs
unfolding up_to
filled-up_to f zero xs h = refl
filled-up_to f (suc n) xs h =
    ap (λ (l : List _). set l n (f n)) (filled-up_to f n xs (omega (arith, h)) ∙ ap (λ (l : List _). up_to f n ++ l) (drop-cons xs n (f n) (omega (arith, h))))
    ∙ set_at (up_to f n) _ (drop (suc n) xs) (f n) n (up_to-length f n)
    ∙ sym (append_assoc (up_to f n) (f n ∷ []) (drop (suc n) xs))

pub over-filled : {A : Type 0} (f : ℕ → A) (new table : List A) → new ≡ up_to f (length new) → length new ≤ length table → filled_to f (length new) table ≡ over table new
unfolding over
over-filled f new table e h = filled-up_to f (length new) table h ∙ ap (λ (l : List _). l ++ drop (length new) table) (sym e)

-- a record more behind the new ones
pub over-put : {A : Type 0} (new table : List A) (x : A) → length new < length table → set (over table new) (length new) x ≡ over table (new ++ (x ∷ []))
unfolding over
over-put [] [] x h = absurd (omega arith)
over-put [] (y ∷ table) x h = refl
over-put (a ∷ new) [] x h = absurd (omega arith)
over-put (a ∷ new) (y ∷ table) x h = ap (λ (l : List _). a ∷ l) (over-put new table x (omega (arith, h)))
