-- Names may be compared when the lines are read up to the first fault: a name used twice stands on an earlier line, or comes first on the same.
use Rattle.std.specs.Prelude.{None, Some, Err, Ok}
use Prim.Native.Nat.{ℕ, ◌+◌, min}
use mathlib.Core.Path.{◌≡◌, refl, sym, ap, ◌∙◌}
use mathlib.Core.List.{List, [], ◌∷◌, map}
use mathlib.Core.Bool.{true, false, cond}
use lib.Dec.{eqb, leb}
use Rattle.laws.proofs.Tests.{by-test}
use Rattle.keywords.specs.declared.Section.TheVariants.{Component, Selector, Model}
use Rattle.cut_lines.specs.Texts.{Text}
use Rattle.rules.specs.Steps.{is_ended, on_text}
use Rattle.rules.specs.Outline.{Entry, place, is, count, is_used}
use Rattle.rules.specs.Whole.{bound, Held, Outcome, passed, refused, admit, admit_entry, text_of, line_of, after_admission, after_step, runs}
use Rattle.records.specs.Bounds.{most_waveforms}
use Rattle.records.specs.declared.Kind.{Kind}
use Rattle.records.specs.declared.Kind.TheVariants.{OfComponent, OfPin, OfSelector, OfChoice, OfModel}
use Rattle.records.specs.declared.Lengths.{Lengths}
use Rattle.rules.specs.declared.Stage.{Stage}
use Rattle.rules.specs.declared.Event.{Event}
use Rattle.rules.specs.declared.Event.TheVariants.{Quiet, Opened, PinRow, ChoiceRow, WaveformOpened, TableRow, Ended}
use Rattle.rules.specs.Going.{Went}
use Rattle.records.specs.declared.Counts.{Counts}
use Rattle.notes.specs.Noted.{used, one_more, more_waveforms, more_rows, Note, entry_of, Log, held_of, with_note, logged, Finish, out_of_lines, after_logged, after_went, run_log, clash, settled}

abbrev pub entries : Log → List Entry
entries g = map entry_of g.notes

-- the counts count the entries
abbrev pub Counted : Log → Type 0
Counted g = (k : Kind) → used g.counts k ≡ count (is k) (entries g)

-- one more of a kind is one more of that kind alone
pub one_more_lem : (c : Counts) (x k : Kind) → used (one_more c x) k ≡ cond (eqb (place k) (place x)) (used c k + 1) (used c k)
one_more_lem c OfComponent OfComponent = refl
one_more_lem c OfComponent OfPin = refl
one_more_lem c OfComponent OfSelector = refl
one_more_lem c OfComponent OfChoice = refl
one_more_lem c OfComponent OfModel = refl
one_more_lem c OfPin OfComponent = refl
one_more_lem c OfPin OfPin = refl
one_more_lem c OfPin OfSelector = refl
one_more_lem c OfPin OfChoice = refl
one_more_lem c OfPin OfModel = refl
one_more_lem c OfSelector OfComponent = refl
one_more_lem c OfSelector OfPin = refl
one_more_lem c OfSelector OfSelector = refl
one_more_lem c OfSelector OfChoice = refl
one_more_lem c OfSelector OfModel = refl
one_more_lem c OfChoice OfComponent = refl
one_more_lem c OfChoice OfPin = refl
one_more_lem c OfChoice OfSelector = refl
one_more_lem c OfChoice OfChoice = refl
one_more_lem c OfChoice OfModel = refl
one_more_lem c OfModel OfComponent = refl
one_more_lem c OfModel OfPin = refl
one_more_lem c OfModel OfSelector = refl
one_more_lem c OfModel OfChoice = refl
one_more_lem c OfModel OfModel = refl

pub more-waveforms : (c : Counts) (x : Kind) → (one_more c x).waveforms ≡ c.waveforms
more-waveforms c OfComponent = refl
more-waveforms c OfPin = refl
more-waveforms c OfSelector = refl
more-waveforms c OfChoice = refl
more-waveforms c OfModel = refl

pub more_rows_lem : (c : Counts) (x : Kind) → (one_more c x).rows ≡ c.rows
more_rows_lem c OfComponent = refl
more_rows_lem c OfPin = refl
more_rows_lem c OfSelector = refl
more_rows_lem c OfChoice = refl
more_rows_lem c OfModel = refl

waveform-used : (c : Counts) (k : Kind) → used (more_waveforms c) k ≡ used c k
waveform-used c OfComponent = refl
waveform-used c OfPin = refl
waveform-used c OfSelector = refl
waveform-used c OfChoice = refl
waveform-used c OfModel = refl

row-used : (c : Counts) (k : Kind) → used (more_rows c) k ≡ used c k
row-used c OfComponent = refl
row-used c OfPin = refl
row-used c OfSelector = refl
row-used c OfChoice = refl
row-used c OfModel = refl

-- ---- an earlier clash stays the first

clash-first : (e : Entry) (es : List Entry) (k : ℕ) → clash es ≡ Some k → clash (e ∷ es) ≡ Some k
unfolding clash
clash-first e es k h = rw h refl

clash-here : (e : Entry) (es : List Entry) → clash es ≡ None → is_used e.kind e.name es ≡ true → clash (e ∷ es) ≡ Some e.line
unfolding clash
clash-here e es h u = rw h rw u refl

clash-none : (e : Entry) (es : List Entry) → clash es ≡ None → is_used e.kind e.name es ≡ false → clash (e ∷ es) ≡ None
unfolding clash
clash-none e es h u = rw h rw u refl

module _ (l : Lengths) (past : ℕ) where
  abbrev Keeps : Log → Finish → Type 0
  Keeps g f = (k : ℕ) → clash (entries g) ≡ Some k → clash (entries f.log) ≡ Some k

  abbrev KeepsFrom : List Text → Type 0
  KeepsFrom ts = (s : Stage) (g : Log) → Keeps g (run_log l past s g ts)

  keeps-note : (g : Log) (n : Note) (go : Log → Finish) → ((h : Log) → Keeps h (go h)) → Keeps g (after_logged go (with_note l g n))
  unfolding with_note
  keeps-note g n go ih k h =
      by-test (leb (bound l n.kind) (used g.counts n.kind))
      (λ t. rw t (clash-first (entry_of n) (entries g) k h))
      (λ t. rw t (ih _ k (clash-first (entry_of n) (entries g) k h)))

  keeps-event : (g : Log) (t : Text) (ts : List Text) (go : Log → Finish) → ((h : Log) → Keeps h (go h)) → (e : Event) → Keeps g (after_logged go (logged l g t ts e))
  keeps-event g t ts go ih Quiet = ih g
  keeps-event g t ts go ih (Opened o) = keeps-note g _ go ih
  keeps-event g t ts go ih PinRow = keeps-note g _ go ih
  keeps-event g t ts go ih ChoiceRow = keeps-note g _ go ih
  keeps-event g t ts go ih WaveformOpened = λ k h.
      by-test (leb (min most_waveforms l.waveforms) g.counts.waveforms) (λ u. rw u h) (λ u. rw u (ih _ k h))
  keeps-event g t ts go ih TableRow = λ k h. ih _ k h
  keeps-event g t ts go ih (Ended f) = λ k h.
      by-test (eqb g.counts.components 0) (λ u. rw u h) (λ u. by-test (eqb f.number 0) (λ v. rw (u, v) (ih g k h)) (λ v. rw (u, v) h))

  keeps-out : (s : Stage) (g : Log) → Keeps g (out_of_lines past g s)
  keeps-out s g k h = by-test (is_ended s) (λ u. rw u h) (λ u. rw u h)

  keeps-went : (g : Log) (t : Text) (ts : List Text) → KeepsFrom ts → (w : Went) → Keeps g (after_went l g t ts (λ (u : Stage) (h : Log). run_log l past u h ts) w)
  keeps-went g t ts ih (Ok (u, e)) = keeps-event g t ts (λ (h : Log). run_log l past u h ts) (ih u) e
  keeps-went g t ts ih (Err f) = λ k h. h

  keeps : (ts : List Text) → KeepsFrom ts
  unfolding run_log
  keeps [] s g = keeps-out s g
  keeps (t ∷ ts) s g = keeps-went g t ts (keeps ts) (on_text s t)

  -- ---- line by line

  abbrev Settles : Log → Outcome → Finish → Type 0
  Settles g o f = o ≡ settled f (clash (entries f.log))

  abbrev SettlesFrom : List Text → Type 0
  SettlesFrom ts = (s : Stage) (g : Log) → Counted g → clash (entries g) ≡ None → Settles g (runs l past s (held_of g) ts) (run_log l past s g ts)

  counted-one : (g : Log) (n : Note) → Counted g → (k : Kind) → used (one_more g.counts n.kind) k ≡ count (is k) (entry_of n ∷ entries g)
  unfolding count
  counted-one g n c k = one_more_lem g.counts n.kind k ∙ ap (λ (m : ℕ). cond (is k (entry_of n)) (m + 1) m) (c k)

  -- the log with a note more, and room for it
  abbrev grown : Log → Note → Log
  grown g n = record { notes = n ∷ g.notes; counts = one_more g.counts n.kind }

  held_grown : (g : Log) (n : Note) → record { entries = entry_of n ∷ entries g; waveforms = g.counts.waveforms } ≡ held_of (grown g n)
  held_grown g n = rw (more-waveforms g.counts n.kind) refl

  settles-note : (g : Log) (n : Note) (go : Held → Outcome) (og : Log → Finish)
      → ((h : Log) → Keeps h (og h)) → ((h : Log) → Counted h → clash (entries h) ≡ None → Settles h (go (held_of h)) (og h))
      → Counted g → clash (entries g) ≡ None → Settles g (after_admission n.line go (admit_entry l (held_of g) (entry_of n))) (after_logged og (with_note l g n))
  unfolding with_note admit_entry
  settles-note g n go og kept ih c none_yet =
      by-test (is_used n.kind n.name (entries g))
      (λ u. by-test (leb (bound l n.kind) (used g.counts n.kind))
      (λ t. rw u rw t rw (clash-here (entry_of n) (entries g) none_yet u) refl)
      (λ t. rw u rw t rw (kept (grown g n) n.line (clash-here (entry_of n) (entries g) none_yet u)) refl))
      (λ u. by-test (leb (bound l n.kind) (used g.counts n.kind))
      (λ t. rw u rw (sym (c n.kind)) rw t rw (clash-none (entry_of n) (entries g) none_yet u) refl)
      (λ t. rw u rw (sym (c n.kind)) rw t (ap go (held_grown g n) ∙ ih (grown g n) (counted-one g n c) (clash-none (entry_of n) (entries g) none_yet u))))

  settles-event : (g : Log) (t : Text) (ts : List Text) (go : Held → Outcome) (og : Log → Finish)
      → ((h : Log) → Keeps h (og h)) → ((h : Log) → Counted h → clash (entries h) ≡ None → Settles h (go (held_of h)) (og h))
      → Counted g → clash (entries g) ≡ None → (e : Event) → Settles g (after_admission (line_of t) go (admit l (held_of g) (line_of t) (text_of t) e)) (after_logged og (logged l g t ts e))
  settles-event g t ts go og kept ih c n Quiet = ih g c n
  settles-event g t ts go og kept ih c n (Opened Component) = settles-note g _ go og kept ih c n
  settles-event g t ts go og kept ih c n (Opened Selector) = settles-note g _ go og kept ih c n
  settles-event g t ts go og kept ih c n (Opened Model) = settles-note g _ go og kept ih c n
  settles-event g t ts go og kept ih c n PinRow = settles-note g _ go og kept ih c n
  settles-event g t ts go og kept ih c n ChoiceRow = settles-note g _ go og kept ih c n
  settles-event g t ts go og kept ih c n WaveformOpened =
      by-test (leb (min most_waveforms l.waveforms) g.counts.waveforms) (λ u. rw u rw n refl)
      (λ u. rw u (ih (record { notes = g.notes; counts = more_waveforms g.counts }) (λ k. waveform-used g.counts k ∙ c k) n))
  settles-event g t ts go og kept ih c n TableRow =
      ih (record { notes = g.notes; counts = more_rows g.counts }) (λ k. row-used g.counts k ∙ c k) n
  settles-event g t ts go og kept ih c n (Ended f) =
      by-test (eqb g.counts.components 0) (λ u. rw (sym (c OfComponent)) rw u rw n refl)
      (λ u. by-test (eqb f.number 0) (λ v. rw (sym (c OfComponent)) rw (u, v) (ih g c n)) (λ v. rw (sym (c OfComponent)) rw (u, v) rw n refl))

  settles-out : (s : Stage) (g : Log) → clash (entries g) ≡ None
      → Settles g (cond (is_ended s) (passed (held_of g)) (refused 19 past 0)) (out_of_lines past g s)
  settles-out s g n = by-test (is_ended s) (λ u. rw (u, n)) (λ u. rw (u, n))

  settles-went : (g : Log) (t : Text) (ts : List Text) → SettlesFrom ts → Counted g → clash (entries g) ≡ None → (w : Went)
      → Settles g (after_step l (held_of g) t (λ (u : Stage) (h : Held). runs l past u h ts) w) (after_went l g t ts (λ (u : Stage) (h : Log). run_log l past u h ts) w)
  settles-went g t ts ih c n (Ok (u, e)) =
      settles-event g t ts (λ (h : Held). runs l past u h ts) (λ (h : Log). run_log l past u h ts) (keeps ts u) (ih u) c n e
  settles-went g t ts ih c n (Err f) = rw n refl

  pub settles : (ts : List Text) → SettlesFrom ts
  unfolding run_log runs
  settles [] s g c n = settles-out s g n
  settles (t ∷ ts) s g c n = settles-went g t ts (settles ts) c n (on_text s t)
