-- When a file is refused or accepted: what is then answered, and what the store then holds.
use Rattle.std.specs.Prelude.{None, Some, Ok, Result, Err}
use Prim.Native.Nat.{ℕ, ◌≤◌, ◌<◌, zero-le}
use mathlib.Core.Path.{◌≡◌, refl, sym, ap, ◌∙◌, subst}
use mathlib.Core.List.{List, map, reverse}
use native.Mathlib.Omega.{arith}
use Rattle.cut_lines.specs.Texts.{Text}
use Rattle.cut_lines.specs.Cursors.{rest, past, first_cursor, Placed}
use Rattle.cut_lines.specs.declared.Cursor.{Cursor}
use Rattle.rules.specs.Reading.{file_in}
use Rattle.layout.specs.Laid.{laid, counts_of}
use Rattle.rules.proofs.Outcomes.{loaded-few, loaded-enough}
use Rattle.rules.specs.Outline.{is}
use Rattle.rules.specs.Whole.{Held, Outcome, passed, refused, outcome, loading, texts_of, last_checks}
use Rattle.lines.specs.Lines.{bytes_fault}
use Rattle.records.specs.declared.Fault.{Fault}
use Rattle.records.specs.Bounds.{most_rows}
use Rattle.records.specs.declared.Lengths.{Lengths}
use Rattle.records.specs.declared.Lending.{Lending}
use Rattle.rules.specs.declared.Stage.TheVariants.{BeforeVersion}
use Rattle.notes.specs.Noted.{entry_of, held_of, run_log, empty_log, whole, clash}
use Rattle.note_words.specs.Store.{notes_to, log_in}
use Rattle.layout_by_notes.specs.Lies.{noted, Lies}
use Rattle.layout_by_notes.proofs.Tables.{lies}
use Rattle.noted_events.specs.Events.{log_of}
use Rattle.file_answer.specs.Scans.{fault_of_ending, finish_is, WithinAt}
use Rattle.noted_events.specs.declared.Tally.{Tally}
use Rattle.file_answer.specs.declared.Scanned.{Scanned}
use Rattle.component_records.specs.Views.{header_laid}
use Rattle.file_answer.specs.Answered.{refusal, answer_of, answer_in, answer_for}
use Rattle.file_answer.specs.Sorted.{Sorted, SortedFor, Outlines, LoadedFor, Loads, ReadWhole}
use Rattle.records.specs.declared.Answer.{Answer}
use Rattle.file_answer.proofs.Laws.{all-texts, used-twice, broken-off, read_through}
use Rattle.file_answer.proofs.SortedLaws.{by_kind}

pub first-placed : (s : List ℕ) (c : Cursor) → c ≡ first_cursor → Placed s c
first-placed s c e = subst (Placed s) (sym e) (record { within = zero-le; lines = omega arith })

-- ---- refused

pub refuses : (l : Lengths) (s xs : List ℕ) (r : Answer) (f : Fault) → outcome l s ≡ refused f.number f.line f.column → r ≡ refusal f → Outlines l s r xs
unfolding answer_of
refuses l s xs r f is e = record { answer = e ∙ sym (ap (answer_for (file_in (texts_of s))) is); sorted = subst (SortedFor l s xs) (sym is) tt }

-- ---- accepted

module _ (l : Lengths) (s xs : List ℕ) (t : Tally) (read : ReadWhole l s xs t) where
  run : run_log l (past s first_cursor) BeforeVersion empty_log (texts_of s) ≡ whole (log_of s xs t)
  run = subst (λ (ts : List Text). run_log l (past s first_cursor) BeforeVersion empty_log ts ≡ whole (log_of s xs t)) (all-texts l s) read.read

  lie : Lies (log_of s xs t) (laid (file_in (texts_of s)))
  lie = lies l (past s first_cursor) (texts_of s) (log_of s xs t) run

  counted : t.counts ≡ counts_of (laid (file_in (texts_of s)))
  unfolding log_in
  counted = lie.counts

  sorted : Sorted l s xs
  unfolding log_in noted
  sorted =
      record {
        clean = read.clean;
        past = past s first_cursor;
        log = log_of s xs t;
        run = run;
        names = by_kind s xs t.names t.counts read.filed;
      }

  pub accepts : (r : Answer) (h : Held) → outcome l s ≡ passed h
      → r ≡ record { verdict = (Ok tt); counts = t.counts; header = header_laid (rest s first_cursor) } → Outlines l s r xs
  unfolding answer_of file_in
  accepts r h is e =
      record {
        answer = e ∙ (rw counted rw (all-texts l s) refl) ∙ sym (ap (answer_for (file_in (texts_of s))) is);
        sorted = subst (SortedFor l s xs) (sym is) sorted;
      }

  pub through : outcome l s ≡ last_checks (reverse (map entry_of (notes_to s xs t.names))) (passed (held_of (log_of s xs t)))
  unfolding log_in
  through = read_through l s read.clean (whole (log_of s xs t)) read.read read.names refl

-- ---- the lines read to some end

module _ (l : Lengths) (s xs : List ℕ) (z : Scanned) (clean : bytes_fault s ≡ Ok tt)
    (read : run_log l (past s first_cursor) BeforeVersion empty_log (rest s first_cursor) ≡ finish_is s xs z) where
  pub twice : (k : ℕ) → clash (map entry_of (notes_to s xs z.tally.names)) ≡ Some k → outcome l s ≡ refused 14 k 0
  unfolding log_in
  twice k h = used-twice l s clean (finish_is s xs z) read k h

  pub broken : (f : Fault) → clash (map entry_of (notes_to s xs z.tally.names)) ≡ None → z.ending ≡ Err f → outcome l s ≡ refused f.number f.line f.column
  unfolding log_in
  broken f h e = broken-off l s clean (finish_is s xs z) read f h (ap fault_of_ending e)

  pub all_read : clash (map entry_of (notes_to s xs z.tally.names)) ≡ None → z.ending ≡ Ok tt → WithinAt xs z.tally z.ending → ReadWhole l s xs z.tally
  all_read h e w =
      let kept = subst (WithinAt xs z.tally) e w in
      record {
        clean = clean;
        read = read ∙ ap (λ (x : Result (Unit {0}) Fault). record { fault = fault_of_ending x; log = log_of s xs z.tally }) e;
        names = h;
        within = kept.0;
        filed = kept.1;
      }

-- ---- a file that is loaded

module _ (l : Lending) (s xs : List ℕ) (r : Answer) where
  loads-as : (o : Outcome) → loading l s ≡ o → r ≡ answer_for (file_in (texts_of s)) o → LoadedFor l s xs o → Loads l s r xs
  unfolding answer_in
  loads-as o is e kept = record { answer = e ∙ sym (ap (answer_for (file_in (texts_of s))) is); sorted = subst (LoadedFor l s xs) (sym is) kept }

  pub too_few : l.rows < most_rows → r ≡ refusal (record { number = 25; line = 0; column = 0 }) → Loads l s r xs
  too_few few e = loads-as (refused 25 0 0) (loaded-few l s few) e tt

  with_rows : most_rows ≤ l.rows → (o : Outcome) → SortedFor l.tables s xs o → LoadedFor l s xs o
  with_rows enough (passed h) sorted = (sorted, enough)
  with_rows enough (refused n k c) u = tt

  pub loads : most_rows ≤ l.rows → Outlines l.tables s r xs → Loads l s r xs
  unfolding answer_of
  loads enough said =
      loads-as (outcome l.tables s) (loaded-enough l s enough) said.answer (with_rows enough (outcome l.tables s) said.sorted)
