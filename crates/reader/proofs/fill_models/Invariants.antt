-- What holds before each turn is `Made`; a turn puts a waveform or a model, and there are fewer left of the one or the other.
use Prim.Native.Nat.{◌+◌, ◌-◌}
use lib.ListN.{length}
use Rattle.from_notes.specs.Made.{waveforms_at}
use Rattle.reader.proofs.Making.{Made}
use Rattle.reader.proofs.fill_models.Given as goal

abbrev pub invariant-loop-i : goal.invariant-loop-i
invariant-loop-i l = Made l.src l.notes l.fn.o l.fn.models l.fn.waveforms l.fn.rows l.i l.k l.p l.models l.waveforms l.rows

abbrev pub decreases-loop-i : goal.decreases-loop-i
decreases-loop-i l = (l.n - l.i) + (length (waveforms_at l.src l.notes l.fn.o.models) - l.k)
