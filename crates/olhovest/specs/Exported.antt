-- What the functions for C answer and leave: the answer and the tables of the reader, in words.
use Rattle.std.specs.Prelude.{ℕ, ◌^◌, ◌-◌, ◌≡◌, List, ◌++◌, Option, Some, None}
use Rattle.rules.specs.Reading.{file_in}
use Rattle.layout.specs.Laid.{laid}
use Rattle.rules.specs.Whole.{loading, texts_of}
use Rattle.records.specs.Stored.{row_words}
use Rattle.records.specs.declared.Lengths.{Lengths}
use Rattle.records.specs.declared.Row.{Row}
use Rattle.file_answer.specs.Answered.{answer_in}
use Rattle.record_words.specs.Records.{triple_words}
use Rattle.table_words.specs.Packed.{fault_number, answer_words, WordTables}
use Rattle.table_reader.specs.ReadInWords.{room_in, words_left}
use Rattle.questions.specs.declared.PinValues.{PinValues}

-- the version of the records, as the header tells it: the first had models without their capacitance by structure, the second answers without column, in
-- the third a check asked for rows and told the fault alone
abbrev pub version : ℕ
version = 4

abbrev pub lengths_are : ℕ → ℕ → ℕ → ℕ → ℕ → ℕ → Lengths
lengths_are c p s h m w = record { components = c; pins = p; selectors = s; choices = h; models = m; waveforms = w }

-- file s is read into tables t: n and the words of the answer are told, and the tables then are u
pub record Exports (s : List ℕ) (t : WordTables) (n : ℕ) (answer : List ℕ) (u : WordTables) : Type 0 where
  pub number : n ≡ fault_number (answer_in (room_in t) s).verdict
  pub words : answer ≡ answer_words (answer_in (room_in t) s)
  pub tables : u ≡ words_left (loading (room_in t) s) (laid (file_in (texts_of s))) t

-- ---- what is asked of filled tables

-- a place as a number: the greatest where nothing is found, which is past the end of every table
abbrev pub place_number : Option ℕ → ℕ
place_number (Some k) = k
place_number None = 2 ^ 64 - 1

-- nine words
abbrev pub value_words : PinValues → List ℕ
value_words v = triple_words v.resistance ++ triple_words v.inductance ++ triple_words v.capacitance

-- 1 and the row's four words, or 0 and what was there before
abbrev pub row_number : Option Row → ℕ
row_number (Some r) = 1
row_number None = 0

abbrev pub row_left : Option Row → List ℕ → List ℕ
row_left (Some r) before = row_words r
row_left None before = before
