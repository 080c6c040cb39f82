-- The words of the first models lie over the table: `models-turn` at a turn.
use Prim.Native.Nat.{◌*◌}
use Rattle.from_notes.specs.Made.{joined_to}
use Rattle.record_words.specs.Records.{model_size}
use Rattle.table_rows.specs.Rows.{Lies}
use Rattle.table_words.specs.Packed.{listed_words_at}
use Rattle.table_words.proofs.lists.list_models.Given as goal

abbrev pub invariant-loop-i : goal.invariant-loop-i
invariant-loop-i l = Lies l.initial.models l.models (model_size * l.i) (joined_to (listed_words_at l.src l.notes) l.i)
