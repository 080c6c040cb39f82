-- A fold over the lines (`words-fold`), whose words lie over the row store as it was: `fills-row` and `fills-none` at a turn.
use Rattle.table_rows.proofs.RowWalks.{fills-start, fills-fit, fills-row, fills-none, fills-end}
use Rattle.table_rows.proofs.Stores.{rest-room}
use Rattle.table_rows.proofs.rows.fill_table.Goals as goal

pub loop-start-init : goal.loop-start-init
loop-start-init c = fills-start _ _ _ c.requires.placed

pub put_row-requires : goal.put_row-requires
put_row-requires c = rest-room c.loop-start.rows c.loop-start.used 4 (fills-fit c.loop-start.invariant c.in-Line.is c.next_line.ensures c.row_words-row.ensures c.if-row-eq0.true c.requires.c_in_bounds)

pub loop-start-preserved-then-row-eq0 : goal.loop-start-preserved-then-row-eq0
loop-start-preserved-then-row-eq0 c = rw c.put_row.ensures (fills-row c.loop-start.invariant c.in-Line.is c.next_line.ensures c.row_words-row.ensures c.if-row-eq0.true c.requires.c_in_bounds)

pub loop-start-preserved : goal.loop-start-preserved
loop-start-preserved c = fills-none c.loop-start.invariant c.in-Line.is c.next_line.ensures c.row_words-row.ensures c.if-row-eq0.false

pub returns-in-NoLine : goal.returns-in-NoLine
returns-in-NoLine c = fills-end c.loop-start.invariant c.in-NoLine.is c.next_line.ensures
