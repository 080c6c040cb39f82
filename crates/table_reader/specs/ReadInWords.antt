-- What a reading into tables of words answers and leaves: the answer and the tables of the reader, in words.
use Rattle.std.specs.Prelude.{ℕ, ◌/◌, ◌≡◌, length}
use mathlib.Core.List.{List, flat_map}
use Rattle.rules.specs.Reading.{file_in}
use Rattle.layout.specs.Laid.{Laid, laid}
use Rattle.records.specs.Stored.{stored, over}
use Rattle.rules.specs.Whole.{Outcome, passed, refused, loading, texts_of}
use Rattle.records.specs.declared.Lending.{Lending}
use Rattle.records.specs.declared.Answer.{Answer}
use Rattle.file_answer.specs.Answered.{answer_in}
use Rattle.record_words.specs.Records.{component_words, pin_words, selector_words, choice_words, model_words, waveform_words, component_size, pin_size, selector_size, choice_size, model_size, waveform_size, row_size}
use Rattle.table_words.specs.Packed.{WordTables}

-- as many records and rows are lent as whole ones have room
abbrev pub room_in : WordTables → Lending
room_in t =
    record {
      tables =
          record {
            components = length t.components / component_size;
            pins = length t.pins / pin_size;
            selectors = length t.selectors / selector_size;
            choices = length t.choices / choice_size;
            models = length t.models / model_size;
            waveforms = length t.waveforms / waveform_size;
          };
      rows = length t.rows / row_size;
    }

-- an accepted file is laid over what the tables held; after a fault they hold what they held before
abbrev pub words_left : Outcome → Laid → WordTables → WordTables
words_left (passed h) a t =
    record {
      components = over t.components (flat_map component_words a.components);
      pins = over t.pins (flat_map pin_words a.pins);
      selectors = over t.selectors (flat_map selector_words a.selectors);
      choices = over t.choices (flat_map choice_words a.choices);
      models = over t.models (flat_map model_words a.models);
      waveforms = over t.waveforms (flat_map waveform_words a.waveforms);
      rows = over t.rows (stored a.rows);
    }
words_left (refused n k c) a t = t

-- file s is read into tables t: r is answered, and the tables then are u
pub record ReadInWords (s : List ℕ) (t : WordTables) (r : Answer) (u : WordTables) : Type 0 where
  pub answer : r ≡ answer_in (room_in t) s
  pub tables : u ≡ words_left (loading (room_in t) s) (laid (file_in (texts_of s))) t
