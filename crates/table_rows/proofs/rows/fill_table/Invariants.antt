-- A fold over the lines (`words-fold`), whose words lie over the row store as it was: `fills-row` and `fills-none` at a turn.
use Prim.Native.Nat.{◌-◌}
use lib.ListN.{length}
use Rattle.table_rows.proofs.RowWalks.{Fills}
use Rattle.table_rows.proofs.rows.fill_table.Given as goal

abbrev pub invariant-loop-start : goal.invariant-loop-start
invariant-loop-start l = Fills l.src l.initial.d l.d l.initial.rows l.rows l.used

abbrev pub decreases-loop-start : goal.decreases-loop-start
decreases-loop-start l = length l.src - l.d.at
