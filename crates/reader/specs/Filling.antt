-- What the fill of the models asks and leaves, for the walk of `read`.
use Rattle.std.specs.Prelude.{ℕ, ◌≤◌, ◌≡◌, List, length, replicate}
use Rattle.table_walks.specs.Filled.{filled_to}
use Rattle.records.specs.Stored.{stored, over}
use Rattle.records.specs.declared.Counts.{Counts}
use Rattle.records.specs.declared.Model.{Model}
use Rattle.records.specs.declared.Waveform.{Waveform}
use Rattle.note_words.specs.Store.{store_length}
use Rattle.from_notes.specs.Made.{model_at, waveforms_at, rows_at}

-- there is room for all models, their waveforms and their rows
pub record ModelsFit (s ns : List ℕ) (o : Counts) (ms : List Model) (ws : List Waveform) (rs : List ℕ) : Type 0 where
  pub models : o.models ≤ length ms
  pub waveforms : length (waveforms_at s ns o.models) ≤ length ws
  pub rows : length (stored (rows_at s ns o.models)) ≤ length rs

-- one model after the other, over what the tables held
pub record ModelsFilled (s ns : List ℕ) (o : Counts) (ms : List Model) (ws : List Waveform) (rs : List ℕ) (ms' : List Model) (ws' : List Waveform) (rs' : List ℕ) : Type 0 where
  pub models : ms' ≡ filled_to (λ k. model_at s ns k) o.models ms
  pub waveforms : ws' ≡ over ws (waveforms_at s ns o.models)
  pub rows : rs' ≡ over rs (stored (rows_at s ns o.models))

-- the store of notes before a reading
unfoldable pub blank_notes : List ℕ
blank_notes = replicate store_length 0
