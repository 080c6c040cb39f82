-- The part of the tables that is in use.
use Rattle.std.specs.Prelude.{ℕ, ◌≡◌, List, length, take}
use Rattle.records.specs.declared.Counts.{Counts}
use Rattle.record_words.specs.Records.{component_size, pin_size, selector_size, choice_size, model_size, waveform_size}
use Rattle.program_output.specs.Kept.{words_in}
use Rattle.program_output.specs.declared.tables.Tables.{Tables}

-- the words of a table's first records, of so many words each
abbrev pub first_records : ℕ → ℕ → List ℕ → List ℕ
first_records size count table = take (words_in (length table) size count) table

-- of each table as many records as are counted; of rows all
pub record InUse (t : Tables) (c : Counts) (r : Tables) : Type 0 where
  pub components : r.components.now ≡ first_records component_size c.components t.components.now
  pub pins : r.pins.now ≡ first_records pin_size c.pins t.pins.now
  pub selectors : r.selectors.now ≡ first_records selector_size c.selectors t.selectors.now
  pub choices : r.choices.now ≡ first_records choice_size c.choices t.choices.now
  pub models : r.models.now ≡ first_records model_size c.models t.models.now
  pub waveforms : r.waveforms.now ≡ first_records waveform_size c.waveforms t.waveforms.now
  pub rows : r.rows.now ≡ t.rows.now
