-- Words written record by record: what then lies over a table, and that there is room.
use Prim.Native.Nat.{ℕ, zero, suc, ◌+◌, ◌*◌, ◌≤◌, ◌<◌}
use mathlib.Core.Path.{◌≡◌, refl, sym, ap, ◌∙◌}
use mathlib.Core.List.{List}
use native.Mathlib.Omega.{arith}
use native.Mathlib.Nat.{mul-le-mul_left, mul-suc, mul-zero}
use native.Mathlib.Numerals.{add-one}
use lib.ListN.{length, length-append}
use lib.Seq.{sets}
use Rattle.records.specs.Stored.{over}
use Rattle.table_rows.proofs.Stores.{over-length}
use Rattle.from_notes.specs.Made.{joined_to}
use Rattle.section_words.proofs.Laws.{over-sets}

-- records of w words each
module _ (f : ℕ → List ℕ) (w : ℕ) (each : (k : ℕ) → length (f k) ≡ w) where
  pub words-length : (n : ℕ) → length (joined_to f n) ≡ w * n
  unfolding joined_to
  words-length zero = sym (mul-zero w)
  words-length (suc n) = omega (arith, length-append (joined_to f n) (f n), words-length n, each n, mul-suc w n)

  -- the first i of n records lie over t
  module _ (t u : List ℕ) (i n : ℕ) (lies : u ≡ over t (joined_to f i)) (fit : w * n ≤ length t) where
    pub words-keep : i ≤ n → length u ≡ length t
    words-keep h =
        let m : w * i ≤ w * n = mul-le-mul_left w h in
        ap length lies ∙ over-length t (joined_to f i) (omega (arith, words-length i, m, fit))

    pub words-room : i < n → w * i + w ≤ length u
    words-room h =
        let m : w * suc i ≤ w * n = mul-le-mul_left w h in
        omega (arith, m, mul-suc w i, fit, words-keep (omega (arith, h)))

    pub words-turn : (v : List ℕ) → i < n → v ≡ f i → sets u (w * i) v ≡ over t (joined_to f (i + 1))
    unfolding joined_to
    words-turn v h is =
        let m : w * suc i ≤ w * n = mul-le-mul_left w h in
        rw lies rw is rw (add-one i)
        (over-sets t (joined_to f i) (f i) (w * i) (sym (words-length i)) (omega (arith, m, mul-suc w i, fit, words-length i, each i)))

pub words-none : (f : ℕ → List ℕ) (t : List ℕ) → t ≡ over t (joined_to f 0)
unfolding joined_to over
words-none f t = refl
