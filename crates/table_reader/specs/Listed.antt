-- What a listing answers and leaves: the answer of a check, and four of the tables in words. No row is kept, so none is asked for.
use Rattle.std.specs.Prelude.{ℕ, ◌/◌, ◌≡◌, length}
use mathlib.Core.List.{List, flat_map, map}
use Rattle.rules.specs.Reading.{file_in}
use Rattle.rules.specs.Whole.{Outcome, passed, refused, outcome, texts_of}
use Rattle.layout.specs.Laid.{Laid, laid}
use Rattle.records.specs.Bounds.{most, most_waveforms}
use Rattle.records.specs.Stored.{over}
use Rattle.records.specs.declared.Kind.TheVariants.{OfComponent}
use Rattle.records.specs.declared.Lengths.{Lengths}
use Rattle.records.specs.declared.Answer.{Answer}
use Rattle.file_answer.specs.Answered.{answer_of}
use Rattle.record_words.specs.Records.{pin_words, selector_words, choice_words, model_words, pin_size, selector_size, choice_size, model_size}
use Rattle.section_words.specs.Listed.{listed_model}
use Rattle.table_words.specs.Packed.{ListTables}

-- of components and waveforms, which are not kept, as many as a file has at most
abbrev pub lengths_listed : ListTables → Lengths
lengths_listed t =
    record {
      components = most OfComponent;
      pins = length t.pins / pin_size;
      selectors = length t.selectors / selector_size;
      choices = length t.choices / choice_size;
      models = length t.models / model_size;
      waveforms = most_waveforms;
    }

-- the models as their first lines say them
abbrev pub list_left : Outcome → Laid → ListTables → ListTables
list_left (passed h) a t =
    record {
      pins = over t.pins (flat_map pin_words a.pins);
      selectors = over t.selectors (flat_map selector_words a.selectors);
      choices = over t.choices (flat_map choice_words a.choices);
      models = over t.models (flat_map model_words (map listed_model a.models));
    }
list_left (refused n k c) a t = t

-- file s is listed in tables t: r is answered, and the tables then are u
pub record Lists (s : List ℕ) (t : ListTables) (r : Answer) (u : ListTables) : Type 0 where
  pub answer : r ≡ answer_of (lengths_listed t) s
  pub tables : u ≡ list_left (outcome (lengths_listed t) s) (laid (file_in (texts_of s))) t
