-- The words of the first models lie over each table: `models-turn` and `to-turn` at a turn.
use Prim.Native.Nat.{◌*◌}
use Rattle.from_notes.specs.Made.{joined_to}
use Rattle.record_words.specs.Records.{model_size}
use Rattle.table_rows.specs.Rows.{Lies}
use Rattle.table_words.specs.Packed.{model_words_at, waveform_words_at, row_words_at}
use Rattle.table_words.proofs.fills.fill_models.Given as goal

abbrev pub invariant-loop-i : goal.invariant-loop-i
invariant-loop-i l = Lies l.initial.models l.models (model_size * l.i) (joined_to (model_words_at l.src l.notes) l.i) × Lies l.initial.waveforms l.waveforms l.waves (joined_to (waveform_words_at l.src l.notes) l.i) × Lies l.initial.rows l.rows l.words (joined_to (row_words_at l.src l.notes) l.i)
