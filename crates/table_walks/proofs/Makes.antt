-- What a loop that fills two tables and goes on in a third says of its turns: `fn makes(xs: &mut [T₁], ys: &mut [T₂], zs: &mut [T₃], src: &[u8], notes: &[u16], o: O) { let n = count(o); let mut i = 0; let mut k = 0; let mut p = start();
-- while i < n { p = step(zs, src, notes, p, i); if is_second(p) { let y = second(p); put(ys, k, y); k += 1; } else { let x = first(src, notes, p, i); put(xs, i, x); i += 1; } } }` at any records of plain data.
-- A relation that each turn keeps gives what is left (`Makes`). The code itself is walked by the borrow checker: a function's Invariants and Answers cite the fields.
use lib.Dec.{T as Holds}
use mathlib.Core.Bool.{Bool, not}
use Prim.Native.Nat.{ℕ, suc, ◌<◌, ◌≤◌}
use mathlib.Core.List.{List}
use lib.ListN.{length, set}
use Rattle.table_walks.proofs.Elem.{Data}

-- what the callees answer, what is asked and left, and what holds before a turn: i and k are how many records of each table are put, p is the state
pub record Makes (e₁ e₂ e₃ w o : Data) : Type 1 where
  pub many : o.D → ℕ
  pub start : w.D
  pub is_second : w.D → Bool
  pub second : w.D → e₂.D
  pub first : List ℕ → List ℕ → w.D → ℕ → e₁.D
  pub wants : List ℕ → List ℕ → w.D → ℕ → List e₃.D → Type 0
  pub tells : List ℕ → List ℕ → w.D → ℕ → List e₃.D → w.D → List e₃.D → Type 0
  pub asks : List ℕ → List ℕ → o.D → List e₁.D → List e₂.D → List e₃.D → Type 0
  pub Left : List ℕ → List ℕ → o.D → List e₁.D → List e₂.D → List e₃.D → List e₁.D → List e₂.D → List e₃.D → Type 0
  pub total : List ℕ → List ℕ → o.D → ℕ
  pub Goes : List ℕ → List ℕ → o.D → List e₁.D → List e₂.D → List e₃.D → ℕ → ℕ → w.D → List e₁.D → List e₂.D → List e₃.D → Type 0
  pub begins : (s ns : List ℕ) (c : o.D) (x : List e₁.D) (y : List e₂.D) (z : List e₃.D) → asks s ns c x y z → Goes s ns c x y z 0 0 start x y z
  pub below : (s ns : List ℕ) (c : o.D) (x : List e₁.D) (y : List e₂.D) (z : List e₃.D) (i k : ℕ) (p : w.D) (x' : List e₁.D) (y' : List e₂.D) (z' : List e₃.D)
      → Goes s ns c x y z i k p x' y' z' → i < many c → k ≤ total s ns c
  pub ready : (s ns : List ℕ) (c : o.D) (x : List e₁.D) (y : List e₂.D) (z : List e₃.D) (i k : ℕ) (p : w.D) (x' : List e₁.D) (y' : List e₂.D) (z' : List e₃.D)
      → Goes s ns c x y z i k p x' y' z' → i < many c → wants s ns p i z'
  pub seconds : (s ns : List ℕ) (c : o.D) (x : List e₁.D) (y : List e₂.D) (z : List e₃.D) (i k : ℕ) (p : w.D) (x' : List e₁.D) (y' : List e₂.D) (z' : List e₃.D)
      → Goes s ns c x y z i k p x' y' z' → i < many c → (r : w.D) (z'' : List e₃.D) → tells s ns p i z' r z'' → Holds (is_second r)
      → (k < length y') × ((k < total s ns c) × Goes s ns c x y z i (suc k) r x' (set y' k (second r)) z'')
  pub firsts : (s ns : List ℕ) (c : o.D) (x : List e₁.D) (y : List e₂.D) (z : List e₃.D) (i k : ℕ) (p : w.D) (x' : List e₁.D) (y' : List e₂.D) (z' : List e₃.D)
      → Goes s ns c x y z i k p x' y' z' → i < many c → (r : w.D) (z'' : List e₃.D) → tells s ns p i z' r z'' → Holds (not (is_second r))
      → (i < length x') × Goes s ns c x y z (suc i) k r (set x' i (first s ns r i)) y' z''
  pub ends : (s ns : List ℕ) (c : o.D) (x : List e₁.D) (y : List e₂.D) (z : List e₃.D) (i k : ℕ) (p : w.D) (x' : List e₁.D) (y' : List e₂.D) (z' : List e₃.D)
      → Goes s ns c x y z i k p x' y' z' → many c ≤ i → Left s ns c x y z x' y' z'
