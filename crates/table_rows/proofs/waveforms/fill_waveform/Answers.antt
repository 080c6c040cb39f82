-- The record and the words so far: `reads-row` and `reads-fixture` at a turn, `reads_end` and `fills-end` at the end.
use mathlib.Core.Path.{◌∙◌}
use Rattle.table_rows.proofs.RowWalks.{fills-fit, fills-end}
use Rattle.table_rows.proofs.Stores.{rest-room}
use Rattle.table_rows.proofs.WaveformWalks.{reads-start, reads-row, reads-fixture, reads_end}
use Rattle.table_rows.proofs.waveforms.fill_waveform.Goals as goal

pub loop-start-init : goal.loop-start-init
loop-start-init c = reads-start _ _ _ _ c.requires.placed

pub put_row-requires : goal.put_row-requires
put_row-requires c = rest-room c.loop-start.rows c.loop-start.used 4 (fills-fit c.loop-start.invariant.fills c.in-Line.is c.next_line.ensures c.row_words-row.ensures c.if-row-eq0.true c.requires.c_in_bounds)

pub loop-start-preserved-then-row-eq0 : goal.loop-start-preserved-then-row-eq0
loop-start-preserved-then-row-eq0 c = rw c.put_row.ensures (reads-row c.loop-start.invariant c.in-Line.is c.next_line.ensures c.row_words-row.ensures c.if-row-eq0.true c.requires.c_in_bounds)

pub loop-start-preserved : goal.loop-start-preserved
loop-start-preserved c = reads-fixture c.loop-start.invariant c.in-Line.is c.next_line.ensures c.row_words-row.ensures c.if-row-eq0.false c.with_fixture-x.ensures

pub returns-in-NoLine : goal.returns-in-NoLine
returns-in-NoLine c = record {
  waveform_value = c.with_rows.ensures ∙ reads_end c.loop-start.invariant c.in-NoLine.is c.next_line.ensures _ _ c.bare_waveform-x.ensures;
  fill_is = fills-end c.loop-start.invariant.fills c.in-NoLine.is c.next_line.ensures;
}
