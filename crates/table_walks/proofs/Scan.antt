-- What a loop that looks for a record says of its turns: `fn find(xs: &[T], n: usize, q: Q) -> S { let len = xs.len(); let mut s = start(); let mut i = 0; while more(s, i, n, len) { let x = get(xs, i); s = step(x, q, i); i += 1; } s }` at any plain data T, Q and S.
-- A relation that each turn keeps gives the answer (`Scan`). The code itself is walked by the borrow checker: a function's Invariants and Answers cite the fields.
use lib.Dec.{T as Holds}
use mathlib.Core.Path.{◌≡◌}
use mathlib.Core.Bool.{Bool, not}
use Prim.Native.Nat.{ℕ, suc, ◌<◌, ◌-◌, ◌+◌, ◌^◌}
use native.Mathlib.Omega.{arith}
use mathlib.Core.List.{List}
use lib.ListN.{length, get_or}
use Rattle.table_walks.proofs.Elem.{Data}

pub nearer : (n i : ℕ) → i < n → n - suc i < n - i
nearer n i h = omega (arith, h)

pub next_fits : (i n : ℕ) → i < n → n < 2 ^ 64 → i + 1 < 2 ^ 64
next_fits i n h g = omega (arith, h, g)

-- what the functions compute; what holds of the place and the state at each turn; and that it begins, is kept, and ends in the answer
pub record Scan (e w z : Data) : Type 2 where
  pub start : w.D
  pub more : w.D → ℕ → ℕ → ℕ → Bool
  pub step : e.D → z.D → ℕ → w.D
  pub answer : List e.D → ℕ → z.D → w.D
  pub Goes : List e.D → ℕ → z.D → ℕ → w.D → Type 0
  pub begins : (xs : List e.D) (n : ℕ) (q : z.D) → Goes xs n q 0 start
  pub below : (s : w.D) (i n m : ℕ) → Holds (more s i n m) → i < m
  pub goes : (xs : List e.D) (n : ℕ) (q : z.D) (i : ℕ) (s : w.D) (d : e.D) → Goes xs n q i s → Holds (more s i n (length xs)) → Goes xs n q (suc i) (step (get_or xs i d) q i)
  pub ends : (xs : List e.D) (n : ℕ) (q : z.D) (i : ℕ) (s : w.D) → Goes xs n q i s → Holds (not (more s i n (length xs))) → s ≡ answer xs n q
