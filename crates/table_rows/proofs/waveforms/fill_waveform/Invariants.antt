-- The record and the words so far: `reads-row` and `reads-fixture` at a turn, `reads_end` and `fills-end` at the end.
use Prim.Native.Nat.{◌-◌}
use lib.ListN.{length}
use Rattle.table_rows.proofs.WaveformWalks.{Reads}
use Rattle.table_rows.proofs.waveforms.fill_waveform.Given as goal

abbrev pub invariant-loop-start : goal.invariant-loop-start
invariant-loop-start l = Reads l.src l.initial.d l.d l.initial.x l.x l.initial.rows l.rows l.used

abbrev pub decreases-loop-start : goal.decreases-loop-start
decreases-loop-start l = length l.src - l.d.at
