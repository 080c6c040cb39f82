-- Before a turn the first k places are filled, whatever is told of the records made.
use Prim.Native.Nat.{ℕ, ◌<◌}
use mathlib.Core.Path.{◌≡◌}
use Rattle.table_walks.specs.Filled.{filled_to}
use Rattle.reader.proofs.fill.Given as goal

abbrev pub invariant-loop-k : goal.invariant-loop-k
invariant-loop-k g l = (f : ℕ → g.row.T.Denot) → ((k : ℕ) (r : g.row.T.Denot) → k < l.n → goal.F-post g l.made k r → r ≡ f k) → l.table ≡ filled_to f l.k l.fn.table
