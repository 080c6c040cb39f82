-- Document 02, "Comments change nothing", over the promises: two files that are alike, checked, and "read into tables of like lengths", of records and of words.
use Rattle.std.specs.Prelude.{ℕ, ◌≡◌, List, Result, Ok, Err}
use Rattle.layout.specs.Laid.{Laid}
use Rattle.records.specs.declared.Lengths.{Lengths}
use Rattle.records.specs.declared.Answer.{Answer}
use Rattle.records.specs.declared.Fault.{Fault}
use Rattle.file_answer.specs.Answered.{answer_of}
use Rattle.remarks.specs.Alike.{Alike, SameFault}
use Rattle.rules.specs.Whole.{nothing_held, passed}
use Rattle.reader.specs.Promise.{Lent, lending_in, left, Reads}
use Rattle.table_words.specs.Packed.{WordTables}
use Rattle.table_reader.specs.ReadInWords.{room_in, words_left, ReadInWords}

-- ---- what is answered

abbrev pub SameVerdict : List ℕ → List ℕ → Result (Unit {0}) Fault → Result (Unit {0}) Fault → Type 0
SameVerdict s t (Ok u) (Ok v) = Unit {0}
SameVerdict s t (Ok u) (Err g) = ⊥
SameVerdict s t (Err f) (Ok u) = ⊥
SameVerdict s t (Err f) (Err g) = SameFault s t f.number f.line f.column g.number g.line g.column

pub record SameAnswer (s t : List ℕ) (q r : Answer) : Type 0 where
  pub verdict : SameVerdict s t q.verdict r.verdict
  pub counts : q.counts ≡ r.counts
  pub header : q.header ≡ r.header

abbrev pub CheckAlike : Type 0
CheckAlike = (s t : List ℕ) → Alike s t → (l : Lengths) → SameAnswer s t (answer_of l s) (answer_of l t)

-- ---- what is left: a and b are the tables as they were lent, u and v as they are left; `lay` lays an accepted file over tables

pub record SameLeft {T : Type 0} (lay : Laid → T → T) (q : Answer) (a b u v : T) : Type 0 where
  -- of accepted files the same is laid over both, whatever they held
  pub lies : q.verdict ≡ Ok tt → (x : Laid) × (u ≡ lay x a) × (v ≡ lay x b)
  -- and tables that were equal are equal again, after a fault too
  pub equal : a ≡ b → u ≡ v

abbrev pub ReadAlike : Type 0
ReadAlike =
    (s t : List ℕ) → Alike s t → (a b u v : Lent) (q r : Answer) → lending_in a ≡ lending_in b → Reads s a q u → Reads t b r v
    → SameAnswer s t q r × SameLeft (left (passed nothing_held)) q a b u v

-- tables in words, as programs and C read into
abbrev pub ReadInWordsAlike : Type 0
ReadInWordsAlike =
    (s t : List ℕ) → Alike s t → (a b u v : WordTables) (q r : Answer) → room_in a ≡ room_in b → ReadInWords s a q u → ReadInWords t b r v
    → SameAnswer s t q r × SameLeft (words_left (passed nothing_held)) q a b u v
