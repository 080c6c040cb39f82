-- The answer and the tables in words.
use Rattle.std.specs.Prelude.{ℕ, ◌*◌, ◌≤◌, length, Result, Ok, Err}
use mathlib.Core.List.{List, [], ◌∷◌, ◌++◌, flat_map}
use Rattle.records.specs.declared.Counts.{Counts}
use Rattle.records.specs.Stored.{stored, over}
use Rattle.records.specs.declared.Kind.TheVariants.{OfModel}
use Rattle.layout_by_notes.specs.Lies.{waveforms_noted, rows_noted}
use Rattle.from_notes.specs.Made.{joined_to, note_by, component_at, pin_at, selector_at, choice_at, model_at, rows_at}
use Rattle.records.specs.declared.Answer.{Answer}
use Rattle.records.specs.declared.Fault.{Fault}
use Rattle.record_words.specs.Records.{text_words, component_words, pin_words, selector_words, choice_words, model_words, waveform_words, component_size, pin_size, selector_size, choice_size, model_size}
use Rattle.section_words.specs.Listed.{listed_words}

-- ---- a noted model: the words of its record, of its waveforms' records and of its rows; k is its place among the noted models

abbrev pub model_words_at : List ℕ → List ℕ → ℕ → List ℕ
model_words_at s ns k = model_words (model_at s ns k)

-- in a listing
abbrev pub listed_words_at : List ℕ → List ℕ → ℕ → List ℕ
listed_words_at s ns k = listed_words (model_at s ns k)

abbrev pub waveform_words_at : List ℕ → List ℕ → ℕ → List ℕ
waveform_words_at s ns k = flat_map waveform_words (waveforms_noted (note_by s ns OfModel k))

abbrev pub row_words_at : List ℕ → List ℕ → ℕ → List ℕ
row_words_at s ns k = stored (rows_noted (note_by s ns OfModel k))

-- ---- the answer

abbrev pub fault_number : Result (Unit {0}) Fault → ℕ
fault_number (Ok tt) = 0
fault_number (Err f) = f.number

abbrev pub fault_line : Result (Unit {0}) Fault → ℕ
fault_line (Ok tt) = 0
fault_line (Err f) = f.line

abbrev pub fault_column : Result (Unit {0}) Fault → ℕ
fault_column (Ok tt) = 0
fault_column (Err f) = f.column

-- line, column and counts
abbrev pub count_words : ℕ → ℕ → Counts → List ℕ
count_words k n c = k ∷ n ∷ c.components ∷ c.pins ∷ c.selectors ∷ c.choices ∷ c.models ∷ c.waveforms ∷ c.rows ∷ []

-- 41 words
abbrev pub answer_words : Answer → List ℕ
answer_words a = count_words (fault_line a.verdict) (fault_column a.verdict) a.counts ++ text_words a.header.name ++ text_words a.header.revision

-- ---- the lent tables

pub record WordTables : Type 0 where
  pub components : List ℕ
  pub pins : List ℕ
  pub selectors : List ℕ
  pub choices : List ℕ
  pub models : List ℕ
  pub waveforms : List ℕ
  pub rows : List ℕ

abbrev pub word_tables : List ℕ → List ℕ → List ℕ → List ℕ → List ℕ → List ℕ → List ℕ → WordTables
word_tables cs ps ss hs ms ws rs = record { components = cs; pins = ps; selectors = ss; choices = hs; models = ms; waveforms = ws; rows = rs }

-- ---- what the fills ask, and leave of what is noted: ns are the notes, and o says how many records they hold

pub record Room (s ns : List ℕ) (o : Counts) (t : WordTables) : Type 0 where
  pub components : component_size * o.components ≤ length t.components
  pub pins : pin_size * o.pins ≤ length t.pins
  pub selectors : selector_size * o.selectors ≤ length t.selectors
  pub choices : choice_size * o.choices ≤ length t.choices
  pub models : model_size * o.models ≤ length t.models
  pub waveforms : length (joined_to (waveform_words_at s ns) o.models) ≤ length t.waveforms
  pub rows : length (stored (rows_at s ns o.models)) ≤ length t.rows

abbrev pub filled : List ℕ → List ℕ → Counts → WordTables → WordTables
filled s ns o t =
    record {
      components = over t.components (joined_to (λ k. component_words (component_at s ns k)) o.components);
      pins = over t.pins (joined_to (λ k. pin_words (pin_at s ns k)) o.pins);
      selectors = over t.selectors (joined_to (λ k. selector_words (selector_at s ns k)) o.selectors);
      choices = over t.choices (joined_to (λ k. choice_words (choice_at s ns k)) o.choices);
      models = over t.models (joined_to (model_words_at s ns) o.models);
      waveforms = over t.waveforms (joined_to (waveform_words_at s ns) o.models);
      rows = over t.rows (stored (rows_at s ns o.models));
    }

-- ---- for a listing: four of the tables, and no store of rows

pub record ListTables : Type 0 where
  pub pins : List ℕ
  pub selectors : List ℕ
  pub choices : List ℕ
  pub models : List ℕ

abbrev pub list_tables : List ℕ → List ℕ → List ℕ → List ℕ → ListTables
list_tables ps ss hs ms = record { pins = ps; selectors = ss; choices = hs; models = ms }

pub record ListRoom (o : Counts) (t : ListTables) : Type 0 where
  pub pins : pin_size * o.pins ≤ length t.pins
  pub selectors : selector_size * o.selectors ≤ length t.selectors
  pub choices : choice_size * o.choices ≤ length t.choices
  pub models : model_size * o.models ≤ length t.models

abbrev pub listed : List ℕ → List ℕ → Counts → ListTables → ListTables
listed s ns o t =
    record {
      pins = over t.pins (joined_to (λ k. pin_words (pin_at s ns k)) o.pins);
      selectors = over t.selectors (joined_to (λ k. selector_words (selector_at s ns k)) o.selectors);
      choices = over t.choices (joined_to (λ k. choice_words (choice_at s ns k)) o.choices);
      models = over t.models (joined_to (listed_words_at s ns) o.models);
    }
