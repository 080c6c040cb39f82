-- The log behind a line, its counts and its room: one note more is one more of its kind, by cases on the kind.
use Prim.Native.Nat.{◌<◌, min}
use mathlib.Core.Path.{◌≡◌, refl}
use mathlib.Core.List.{List, ◌∷◌}
use mathlib.Core.Bool.{cond}
use lib.ListN.{length}
use lib.Dec.{eqb}
use native.Mathlib.Omega.{arith}
use borrow.Author.Tests.{leb-false}
use Rattle.laws.proofs.Tests.{cond-all}
use Rattle.keywords.specs.Form.{argument}
use Rattle.keywords.specs.declared.Section.TheVariants.{Component, Selector, Model}
use Rattle.cut_lines.specs.Texts.{Text}
use Rattle.rules.specs.Whole.{bound, text_of, line_of}
use Rattle.records.specs.Bounds.{most_waveforms}
use Rattle.records.specs.declared.Kind.TheVariants.{OfComponent, OfPin, OfSelector, OfChoice, OfModel}
use Rattle.records.specs.declared.Lengths.{Lengths}
use Rattle.rules.specs.declared.Event.{Event}
use Rattle.rules.specs.declared.Event.TheVariants.{Quiet, Opened, PinRow, ChoiceRow, WaveformOpened, TableRow, Ended}
use Rattle.records.specs.Flaws.{bare}
use Rattle.notes.specs.Noted.{used, one_more, more_waveforms, more_rows, Note, Log, empty_log, section_note, row_note, Logged, going, full, with_note, logged}
use Rattle.records.specs.declared.Counts.{Counts}
use Rattle.layout_by_notes.specs.Lies.{pick, is_of, Bounded, Fits}

-- ---- the log behind a line, where there is room

abbrev one_noted : Log → Note → Log
one_noted h n = record { notes = n ∷ h.notes; counts = one_more h.counts n.kind }

abbrev pub log_after : Log → Text → List Text → Event → Log
log_after h t ts Quiet = h
log_after h t ts (Opened o) = one_noted h (section_note h.counts (line_of t) (argument (text_of t)) ts o)
log_after h t ts PinRow = one_noted h (row_note OfPin (line_of t) 2 (text_of t))
log_after h t ts ChoiceRow = one_noted h (row_note OfChoice (line_of t) 0 (text_of t))
log_after h t ts WaveformOpened = record { notes = h.notes; counts = more_waveforms h.counts }
log_after h t ts TableRow = record { notes = h.notes; counts = more_rows h.counts }
log_after h t ts (Ended f) = h

abbrev pub Room : Lengths → Counts → Event → Type 0
Room l c Quiet = Unit {0}
Room l c (Opened Component) = used c OfComponent < bound l OfComponent
Room l c (Opened Selector) = used c OfSelector < bound l OfSelector
Room l c (Opened Model) = used c OfModel < bound l OfModel
Room l c PinRow = used c OfPin < bound l OfPin
Room l c ChoiceRow = used c OfChoice < bound l OfChoice
Room l c WaveformOpened = c.waveforms < min most_waveforms l.waveforms
Room l c TableRow = Unit {0}
Room l c (Ended f) = Unit {0}

-- what is logged is that log, if anything
abbrev pub Kept : (Log → Type 0) → Logged → Type 0
Kept P (going g) = P g
Kept P (full f k g) = Unit {0}

module _ (P : Log → Type 0) (l : Lengths) (h : Log) where
  kept-note : (n : Note) → (used h.counts n.kind < bound l n.kind → P (one_noted h n)) → Kept P (with_note l h n)
  unfolding with_note
  kept-note n p = cond-all (Kept P) _ _ _ (λ e. tt) (λ e. p (leb-false _ _ e))

  pub kept-after : (t : Text) (ts : List Text) (e : Event) → (Room l h.counts e → P (log_after h t ts e)) → Kept P (logged l h t ts e)
  kept-after t ts Quiet p = p tt
  kept-after t ts (Opened Component) p = kept-note _ p
  kept-after t ts (Opened Selector) p = kept-note _ p
  kept-after t ts (Opened Model) p = kept-note _ p
  kept-after t ts PinRow p = kept-note _ p
  kept-after t ts ChoiceRow p = kept-note _ p
  kept-after t ts WaveformOpened p = cond-all (Kept P) _ _ _ (λ e. tt) (λ e. p (leb-false _ _ e))
  kept-after t ts TableRow p = p tt
  kept-after t ts (Ended f) p =
      let late : Logged = full f (line_of t) h in
      cond-all (Kept P) (eqb h.counts.components 0) (full (bare 9) (line_of t) h) (cond (eqb f.number 0) (going h) late)
      (λ e. tt)
      (λ e. cond-all (Kept P) (eqb f.number 0) (going h) late (λ k. p tt) (λ k. tt))

-- ---- each count is the number of notes of its kind

pub record Counted (h : Log) : Type 0 where
  pub components : h.counts.components ≡ length (pick (is_of OfComponent) h.notes)
  pub pins : h.counts.pins ≡ length (pick (is_of OfPin) h.notes)
  pub selectors : h.counts.selectors ≡ length (pick (is_of OfSelector) h.notes)
  pub choices : h.counts.choices ≡ length (pick (is_of OfChoice) h.notes)
  pub models : h.counts.models ≡ length (pick (is_of OfModel) h.notes)

pub none-counted : Counted empty_log
unfolding pick
none-counted = record { components = refl; pins = refl; selectors = refl; choices = refl; models = refl }

pub counted-after : (h : Log) (t : Text) (ts : List Text) (e : Event) → Counted h → Counted (log_after h t ts e)
unfolding pick
counted-after h t ts Quiet c = c
counted-after h t ts (Opened Component) c = omega arith
counted-after h t ts (Opened Selector) c = omega arith
counted-after h t ts (Opened Model) c = omega arith
counted-after h t ts PinRow c = omega arith
counted-after h t ts ChoiceRow c = omega arith
counted-after h t ts WaveformOpened c = omega arith
counted-after h t ts TableRow c = omega arith
counted-after h t ts (Ended f) c = c

-- ---- no count passes its bound

pub none-bounded : (l : Lengths) → Bounded l empty_log.counts
none-bounded l = omega arith

pub bounded-after : (l : Lengths) (h : Log) (t : Text) (ts : List Text) (e : Event)
    → Bounded l h.counts → Room l h.counts e → Bounded l (log_after h t ts e).counts
bounded-after l h t ts Quiet b r = b
bounded-after l h t ts (Opened Component) b r = omega arith
bounded-after l h t ts (Opened Selector) b r = omega arith
bounded-after l h t ts (Opened Model) b r = omega arith
bounded-after l h t ts PinRow b r = omega arith
bounded-after l h t ts ChoiceRow b r = omega arith
bounded-after l h t ts WaveformOpened b r = omega arith
bounded-after l h t ts TableRow b r = omega arith
bounded-after l h t ts (Ended f) b r = b

pub bounded-fits : (l : Lengths) (c : Counts) → Bounded l c → Fits l c
bounded-fits l c b = omega arith
