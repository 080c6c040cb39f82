-- The models of a store, made one after the other: what is made so far, with what is left of the model that was read last, is what the notes say.
use Rattle.std.specs.Prelude.{ℕ, suc, ◌≤◌, ◌≡◌, List, [], ◌∷◌, ◌++◌, Bool, true, false, Some, None, is_some, length}
use Rattle.laws.specs.Lists.{front}
use Rattle.cut_lines.specs.Texts.{Text}
use Rattle.cut_lines.specs.Cursors.{rest, Placed}
use Rattle.cut_lines.specs.declared.Cursor.{Cursor}
use Rattle.rules.specs.Reading.{is_within, tables_in}
use Rattle.layout.specs.Laid.{waveforms_laid}
use Rattle.records.specs.Stored.{stored, name_laid}
use Rattle.records.specs.declared.Kind.TheVariants.{OfModel}
use Rattle.records.specs.declared.Model.{Model}
use Rattle.records.specs.declared.Waveform.{Waveform}
use Rattle.note_words.specs.Store.{lies_at, section_at, name_of}
use Rattle.table_rows.specs.Rows.{Lies}
use Rattle.table_rows.specs.Parts.{model_words}
use Rattle.model_record.specs.Firsts.{bare_lines, defaulted}
use Rattle.model_record.specs.Bodies.{bare_body, body_on, BodyFits, model_over}
use Rattle.model_record.specs.Takes.{without_waveform}
use Rattle.model_record.specs.declared.Body.{Body}
use Rattle.model_record.specs.declared.FirstLines.{FirstLines}
use Rattle.from_notes.specs.Made.{model_at, waveforms_at, rows_at}
use Rattle.from_notes.specs.declared.Opening.{Opening}
use Rattle.from_notes.specs.declared.Progress.{Progress}

-- before the first step
abbrev pub none_made : Progress
none_made =
    record { words = 0; lines = bare_lines; taken = without_waveform (bare_body 0) (record { at = 0; line = 1; comment = 0 }) 0 }

-- the model noted at place k whose first lines and keywords say f and b
abbrev pub model_from : List ℕ → List ℕ → ℕ → FirstLines → Body → Model
model_from s ns k f b =
    let a = lies_at OfModel k in
    model_over (section_at ns a).section (section_at ns a).start (name_laid (name_of s ns a)) (defaulted f) b

-- ---- the model at place k, part of whose texts are read: ts are left, f and b are what those before say. waves and rowed are all waveforms and words so far

pub record Partly (s ns : List ℕ) (k : ℕ) (f : FirstLines) (b : Body) (ts : List Text) (waves : List Waveform) (rowed : List ℕ) : Type 0 where
  pub model : model_from s ns k f (body_on b ts) ≡ model_at s ns k
  pub waveforms : waves ++ waveforms_laid (tables_in ts) b.row ≡ waveforms_at s ns (suc k)
  pub rows : rowed ++ model_words ts ≡ stored (rows_at s ns (suc k))

-- k models are whole
pub record Whole (s ns : List ℕ) (k : ℕ) (waves : List Waveform) (rowed : List ℕ) : Type 0 where
  pub waveforms : waves ≡ waveforms_at s ns k
  pub rows : rowed ≡ stored (rows_at s ns k)

abbrev pub whether : Bool → Type 0 → Type 0 → Type 0
whether t A B = (t ≡ true → A) × (t ≡ false → B)

abbrev pub texts : List ℕ → Cursor → List Text
texts s c = front is_within (rest s c)

-- k models are whole, and the next goes on behind its waveform, if p stands there
abbrev pub Reached : List ℕ → List ℕ → Progress → ℕ → List Waveform → List ℕ → Type 0
Reached s ns p k waves rowed =
    whether (is_some p.taken.waveform) (Partly s ns k p.lines p.taken.body (texts s p.taken.next) waves rowed) (Whole s ns k waves rowed)

-- ---- a step

abbrev pub Sound : List ℕ → Progress → Type 0
Sound s p = is_some p.taken.waveform ≡ true → Placed s p.taken.next × BodyFits p.taken.body p.taken.next

pub record OpensAt (s ns : List ℕ) (p : Progress) (k : ℕ) (r : Opening) : Type 0 where
  pub placed : Placed s r.next
  pub fits : BodyFits r.body r.next
  pub partly : (waves : List Waveform) (rowed : List ℕ) → Reached s ns p k waves rowed → Partly s ns k r.lines r.body (texts s r.next) waves rowed

-- there is room for the rows of one model more
pub record Ready (s ns : List ℕ) (p : Progress) (k : ℕ) (store : List ℕ) : Type 0 where
  pub sound : Sound s p
  pub waves : List Waveform
  pub rowed : List ℕ
  pub reached : Reached s ns p k waves rowed
  pub words : p.words ≡ length rowed
  pub room : length (stored (rows_at s ns (suc k))) ≤ length store

-- r is reached, with the row store at `now`, which was `before` at first: behind a waveform, or the model at place k is whole
pub record Goes (s ns : List ℕ) (k : ℕ) (waves : List Waveform) (rowed before now : List ℕ) (r : Progress) : Type 0 where
  pub written : List ℕ
  pub lies : Lies before now r.words (rowed ++ written)
  pub sound : Sound s r
  pub waveform : (w : Waveform) → r.taken.waveform ≡ Some w → Reached s ns r k (waves ++ (w ∷ [])) (rowed ++ written)
  pub model : r.taken.waveform ≡ None → Reached s ns r (suc k) waves (rowed ++ written)
  pub made : r.taken.waveform ≡ None → model_from s ns k r.lines r.taken.body ≡ model_at s ns k
