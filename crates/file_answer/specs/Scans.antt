-- The lines read from a place on, as the code answers it.
use Rattle.std.specs.Prelude.{ℕ, ◌≤◌, ◌≡◌, List, length, Option, None, Some, Result, Ok, Err}
use Rattle.laws.specs.Lists.{part}
use Rattle.records.specs.declared.Fault.{Fault}
use Rattle.records.specs.declared.LineFault.{LineFault}
use Rattle.cut_lines.specs.Texts.{plain, change}
use Rattle.cut_lines.specs.Cursors.{first_cursor, rest, past, CleanFrom, Placed}
use Rattle.cut_lines.specs.declared.Cursor.{Cursor}
use Rattle.rules.specs.Steps.{on_plain, on_change}
use Rattle.records.specs.declared.Lengths.{Lengths}
use Rattle.rules.specs.declared.Stage.{Stage}
use Rattle.notes.specs.Noted.{Log, Finish, after_went, run_log}
use Rattle.note_words.specs.Store.{store_length}
use Rattle.noted_events.specs.Events.{log_of, Within, FiledBy}
use Rattle.noted_events.specs.declared.Spot.{Spot}
use Rattle.noted_events.specs.declared.Tally.{Tally}
use Rattle.file_answer.specs.declared.Standing.{Standing}
use Rattle.file_answer.specs.declared.Scanned.{Scanned}

abbrev pub fault_of_ending : Result (Unit {0}) Fault → Option Fault
fault_of_ending (Ok tt) = None
fault_of_ending (Err f) = Some f

abbrev pub finish_is : List ℕ → List ℕ → Scanned → Finish
finish_is s xs r = record { fault = fault_of_ending r.ending; log = log_of s xs r.tally }

-- ---- one text: n is the number of the line after the last

abbrev pub text_step : Lengths → ℕ → List ℕ → List ℕ → Stage → Tally → Spot → Finish
text_step l n s xs g t p =
    after_went l (log_of s xs t) (plain p.line (part p.start p.end s)) (rest s p.next)
    (λ (u : Stage) (h : Log). run_log l n u h (rest s p.next))
    (on_plain g p.line (part p.start p.end s))

abbrev pub change_step : Lengths → ℕ → List ℕ → List ℕ → Stage → Tally → ℕ → LineFault → Cursor → Finish
change_step l n s xs g t k f c =
    after_went l (log_of s xs t) (change k f) (rest s c) (λ (u : Stage) (h : Log). run_log l n u h (rest s c)) (on_change g k f)

-- lines read to the end leave a tally within the bounds, and a store filed by it
abbrev pub WithinAt : List ℕ → Tally → Result (Unit {0}) Fault → Type 0
WithinAt xs t (Ok tt) = Within t × FiledBy xs t
WithinAt xs t (Err f) = Unit {0}

-- ---- from a place on

abbrev pub standing : Stage → Cursor → Tally → Standing
standing g c t = record { stage = g; cursor = c; tally = t }

abbrev pub run_from : Lengths → List ℕ → List ℕ → Standing → Finish
run_from l s xs x = run_log l (past s x.cursor) x.stage (log_of s xs x.tally) (rest s x.cursor)

-- a cursor that whole lines lead to from the first, and behind it no line whose bytes are faulty
pub record Reached (s : List ℕ) (c : Cursor) : Type 0 where
  pub counted : past s c ≡ past s first_cursor
  pub clean : CleanFrom s c

-- a place in the file, with room in the store for what comes
pub record Ground (s xs : List ℕ) (c : Cursor) (t : Tally) : Type 0 where
  pub placed : Placed s c
  pub reached : Reached s c
  pub small : length s ≤ 65536
  pub store : store_length ≤ length xs
  pub within : Within t
  pub filed : FiledBy xs t
  pub rows : t.counts.rows ≤ c.at

abbrev pub Sound : List ℕ → List ℕ → Standing → Type 0
Sound s xs x = Ground s xs x.cursor x.tally

-- behind lines of a list: from there on the lines say what they say from before them
pub record ListPassed (l : Lengths) (s xs : List ℕ) (x : Standing) (ys : List ℕ) (y : Standing) : Type 0 where
  pub says : run_from l s xs x ≡ run_from l s ys y
  pub sound : Sound s ys y
  pub from : x.cursor.at ≤ y.cursor.at
