-- What a reading leaves in tables of words is handed out as the records that document 01 reads.
use Rattle.std.specs.Prelude.{ℕ, ◌<◌, ◌≡◌, List, length, get_or, Some}
use Rattle.rules.specs.Whole.{passed, loading, texts_of}
use Rattle.rules.specs.Reading.{file_in}
use Rattle.layout.specs.Laid.{Laid, laid}
use Rattle.records.specs.declared.Answer.{Answer}
use Rattle.records.specs.declared.Component.{Component}
use Rattle.records.specs.declared.Pin.{Pin}
use Rattle.records.specs.declared.Selector.{Selector}
use Rattle.records.specs.declared.Choice.{Choice}
use Rattle.records.specs.declared.Model.{Model}
use Rattle.records.specs.declared.Waveform.{Waveform}
use Rattle.records.specs.declared.Row.{Row}
use Rattle.record_words.specs.Records.{component_size, pin_size, selector_size, choice_size, model_size, waveform_size, row_size}
use Rattle.table_records.specs.Values.{record_at}
use Rattle.table_records.specs.Records.{component_from, pin_from, selector_from, choice_from, model_from, waveform_from, row_from}
use Rattle.table_records.specs.Fine.{AreBytes}
use Rattle.table_words.specs.Packed.{WordTables}
use Rattle.table_reader.specs.ReadInWords.{room_in, ReadInWords}

-- the record at each place that is used; d stands where there is none, and is not asked for
pub record HandedOut (a : Laid) (u : WordTables) : Type 0 where
  pub components : (k : ℕ) (d : Component) → k < length a.components → component_from (record_at component_size u.components k) ≡ get_or a.components k d
  pub pins : (k : ℕ) (d : Pin) → k < length a.pins → pin_from (record_at pin_size u.pins k) ≡ get_or a.pins k d
  pub selectors : (k : ℕ) (d : Selector) → k < length a.selectors → selector_from (record_at selector_size u.selectors k) ≡ get_or a.selectors k d
  pub choices : (k : ℕ) (d : Choice) → k < length a.choices → choice_from (record_at choice_size u.choices k) ≡ get_or a.choices k d
  pub models : (k : ℕ) (d : Model) → k < length a.models → model_from (record_at model_size u.models k) ≡ get_or a.models k d
  pub waveforms : (k : ℕ) (d : Waveform) → k < length a.waveforms → waveform_from (record_at waveform_size u.waveforms k) ≡ get_or a.waveforms k d
  pub rows : (k : ℕ) (d : Row) → k < length a.rows → row_from (record_at row_size u.rows k) ≡ Some (get_or a.rows k d)

-- for every accepted file, whatever the tables held
abbrev pub ReadIsHandedOut : Type 0
ReadIsHandedOut =
    (s : List ℕ) (t u : WordTables) (r : Answer) → AreBytes s → ReadInWords s t r u → (h : _) → loading (room_in t) s ≡ passed h → HandedOut (laid (file_in (texts_of s))) u
