-- The words of the first k records lie over the table, whatever is told of the words made: `words-turn` at a turn.
use Prim.Native.Nat.{ℕ, ◌<◌}
use mathlib.Core.Path.{◌≡◌}
use mathlib.Core.List.{List}
use lib.ListN.{length}
use Rattle.records.specs.Stored.{over}
use Rattle.from_notes.specs.Made.{joined_to}
use Rattle.table_words.proofs.fills.fill.Given as goal

abbrev pub invariant-loop-k : goal.invariant-loop-k
invariant-loop-k g l =
    (length l.out ≡ length l.fn.out)
    × ((f : ℕ → List ℕ) → ((k : ℕ) → length (f k) ≡ g.row.SIZE) → ((k : ℕ) (r : g.row.T.Denot) → k < l.n → goal.F-post g l.made k r → g.T.Packed.packed r ≡ f k) → l.out ≡ over l.fn.out (joined_to f l.k))
