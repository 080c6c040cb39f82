-- What is noted of an accepted file, for those who fill the tables: its names by kind.
use Rattle.std.specs.Prelude.{ℕ, zero, suc, ◌≤◌, ◌≡◌, List, [], ◌∷◌, ◌++◌, map, length, None, Ok}
use Rattle.lines.specs.Lines.{bytes_fault}
use Rattle.cut_lines.specs.Cursors.{rest, past, first_cursor}
use Rattle.rules.specs.Whole.{Outcome, passed, refused, outcome, loading, texts_of}
use Rattle.records.specs.declared.Kind.{Kind}
use Rattle.records.specs.Bounds.{most_rows}
use Rattle.records.specs.declared.Lengths.{Lengths}
use Rattle.records.specs.declared.Lending.{Lending}
use Rattle.rules.specs.declared.Stage.TheVariants.{BeforeVersion}
use Rattle.notes.specs.Noted.{Log, entry_of, run_log, empty_log, whole, clash}
use Rattle.note_words.specs.Store.{notes_to}
use Rattle.noted_events.specs.Events.{log_of, Within, FiledBy}
use Rattle.noted_events.specs.declared.Tally.{Tally}
use Rattle.layout_by_notes.specs.Lies.{noted}
use Rattle.from_notes.specs.Made.{note_by}
use Rattle.file_answer.specs.Answered.{answer_of, answer_in}
use Rattle.records.specs.declared.Answer.{Answer}

-- f at 0, 1, .. below n
unfoldable pub up_to : {A : Type 0} → (ℕ → A) → ℕ → List A
up_to f zero = []
up_to f (suc n) = up_to f n ++ (f n ∷ [])

-- the store holds the file's names by kind, in file order
pub record Sorted (l : Lengths) (s xs : List ℕ) : Type 0 where
  pub clean : bytes_fault s ≡ Ok tt
  pub past : ℕ
  pub log : Log
  pub run : run_log l past BeforeVersion empty_log (texts_of s) ≡ whole log
  pub names : (k : Kind) → noted k log ≡ up_to (note_by s xs k) (length (noted k log))

abbrev pub SortedFor : Lengths → List ℕ → List ℕ → Outcome → Type 0
SortedFor l s xs (passed h) = Sorted l s xs
SortedFor l s xs (refused n k c) = Unit {0}

pub record Outlines (l : Lengths) (s : List ℕ) (r : Answer) (xs : List ℕ) : Type 0 where
  pub answer : r ≡ answer_of l s
  pub sorted : SortedFor l s xs (outcome l s)

-- the same where rows are lent too: those of an accepted file are as many as a file can have
abbrev pub LoadedFor : Lending → List ℕ → List ℕ → Outcome → Type 0
LoadedFor l s xs (passed h) = Sorted l.tables s xs × (most_rows ≤ l.rows)
LoadedFor l s xs (refused n k c) = Unit {0}

pub record Loads (l : Lending) (s : List ℕ) (r : Answer) (xs : List ℕ) : Type 0 where
  pub answer : r ≡ answer_in l s
  pub sorted : LoadedFor l s xs (loading l s)

-- all lines are read, without fault and with no name used twice
pub record ReadWhole (l : Lengths) (s xs : List ℕ) (t : Tally) : Type 0 where
  pub clean : bytes_fault s ≡ Ok tt
  pub read : run_log l (past s first_cursor) BeforeVersion empty_log (rest s first_cursor) ≡ whole (log_of s xs t)
  pub names : clash (map entry_of (notes_to s xs t.names)) ≡ None
  pub within : Within t
  pub filed : FiledBy xs t
