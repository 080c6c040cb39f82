-- What is noted of a file while its lines are read: names, where sections and rows stand, and how much of each table is used.
use Rattle.std.specs.Prelude.{ℕ, ◌+◌, min, List, [], ◌∷◌, map, Bool, true, false, cond, eqb, leb, Option, None, Some, Err, Ok}
use Rattle.words.specs.Words.{word, words}
use Rattle.records.specs.Flaws.{bare, at_line}
use Rattle.records.specs.declared.Fault.{Fault}
use Rattle.records.specs.declared.LineFault.{LineFault}
use Rattle.keywords.specs.Form.{argument}
use Rattle.keywords.specs.declared.Section.{Section}
use Rattle.keywords.specs.declared.Section.TheVariants.{Component, Selector, Model}
use Rattle.cut_lines.specs.Texts.{Text}
use Rattle.rules.specs.Steps.{is_ended, on_text}
use Rattle.rules.specs.Outline.{Entry, is_used}
use Rattle.rules.specs.Whole.{bound, Held, text_of, line_of, Outcome, passed, refused}
use Rattle.records.specs.Bounds.{most_waveforms}
use Rattle.records.specs.declared.Kind.{Kind}
use Rattle.records.specs.declared.Kind.TheVariants.{OfComponent, OfPin, OfSelector, OfChoice, OfModel}
use Rattle.records.specs.declared.Lengths.{Lengths}
use Rattle.rules.specs.declared.Stage.{Stage}
use Rattle.rules.specs.declared.Event.{Event}
use Rattle.rules.specs.declared.Event.TheVariants.{Quiet, Opened, PinRow, ChoiceRow, WaveformOpened, TableRow, Ended}
use Rattle.rules.specs.Going.{Went}
use Rattle.records.specs.declared.Counts.{Counts}

-- ---- how much is used

abbrev pub nothing_used : Counts
nothing_used = record { components = 0; pins = 0; selectors = 0; choices = 0; models = 0; waveforms = 0; rows = 0 }

abbrev pub used : Counts → Kind → ℕ
used c OfComponent = c.components
used c OfPin = c.pins
used c OfSelector = c.selectors
used c OfChoice = c.choices
used c OfModel = c.models

-- one more of that kind
abbrev pub one_more : Counts → Kind → Counts
one_more c OfComponent = record { components = c.components + 1; pins = c.pins; selectors = c.selectors; choices = c.choices; models = c.models; waveforms = c.waveforms; rows = c.rows }
one_more c OfPin = record { components = c.components; pins = c.pins + 1; selectors = c.selectors; choices = c.choices; models = c.models; waveforms = c.waveforms; rows = c.rows }
one_more c OfSelector = record { components = c.components; pins = c.pins; selectors = c.selectors + 1; choices = c.choices; models = c.models; waveforms = c.waveforms; rows = c.rows }
one_more c OfChoice = record { components = c.components; pins = c.pins; selectors = c.selectors; choices = c.choices + 1; models = c.models; waveforms = c.waveforms; rows = c.rows }
one_more c OfModel = record { components = c.components; pins = c.pins; selectors = c.selectors; choices = c.choices; models = c.models + 1; waveforms = c.waveforms; rows = c.rows }

abbrev pub more_waveforms : Counts → Counts
more_waveforms c = record { components = c.components; pins = c.pins; selectors = c.selectors; choices = c.choices; models = c.models; waveforms = c.waveforms + 1; rows = c.rows }

abbrev pub more_rows : Counts → Counts
more_rows c = record { components = c.components; pins = c.pins; selectors = c.selectors; choices = c.choices; models = c.models; waveforms = c.waveforms; rows = c.rows + 1 }

-- how many sections there are
unfoldable pub sections : Counts → ℕ
sections c = c.components + c.selectors + c.models

-- ---- a note of what is named: a row with its text, or a section with the texts behind its keyword

pub record Note : Type 0 where
  pub kind : Kind
  pub line : ℕ
  pub name : List ℕ
  pub names : List ℕ
  -- of a row: its text
  pub text : List ℕ
  -- of a section: the texts behind its keyword, its place among the sections, and the places of its first pin, row or waveform and of its first table row
  pub behind : List Text
  pub section : ℕ
  pub start : ℕ
  pub row : ℕ

abbrev pub entry_of : Note → Entry
entry_of n = record { kind = n.kind; line = n.line; name = n.name; names = n.names }

-- the latest first
pub record Log : Type 0 where
  pub notes : List Note
  pub counts : Counts

abbrev pub empty_log : Log
empty_log = record { notes = []; counts = nothing_used }

abbrev pub held_of : Log → Held
held_of g = record { entries = map entry_of g.notes; waveforms = g.counts.waveforms }

-- ---- the note of a line: k its number, w its text or its argument, ts the texts behind it

abbrev pub section_note : Counts → ℕ → List ℕ → List Text → Section → Note
section_note c k w ts Component =
    record { kind = OfComponent; line = k; name = w; names = []; text = []; behind = ts; section = sections c; start = c.pins; row = 0 }
section_note c k w ts Selector =
    record { kind = OfSelector; line = k; name = word 0 (words w); names = []; text = []; behind = ts; section = sections c; start = c.choices; row = 0 }
section_note c k w ts Model =
    record { kind = OfModel; line = k; name = word 0 (words w); names = []; text = []; behind = ts; section = sections c; start = c.waveforms; row = c.rows }

-- of a row, which names the model of its word n
abbrev pub row_note : Kind → ℕ → ℕ → List ℕ → Note
row_note x k n w = record { kind = x; line = k; name = word 0 (words w); names = word n (words w); text = w; behind = []; section = 0; start = 0; row = 0 }

-- ---- a line's event is logged, or there is no room: a name is noted before its table is found full

pub data Logged : Type 0 where
  going : Log → Logged
  -- the line's fault, and its number
  full : LineFault → ℕ → Log → Logged

unfoldable pub with_note : Lengths → Log → Note → Logged
with_note l g n =
    cond (leb (bound l n.kind) (used g.counts n.kind))
    (full (bare 17) n.line (record { notes = n ∷ g.notes; counts = g.counts }))
    (going (record { notes = n ∷ g.notes; counts = one_more g.counts n.kind }))

abbrev pub logged : Lengths → Log → Text → List Text → Event → Logged
logged l g t ts Quiet = going g
logged l g t ts (Opened o) = with_note l g (section_note g.counts (line_of t) (argument (text_of t)) ts o)
logged l g t ts PinRow = with_note l g (row_note OfPin (line_of t) 2 (text_of t))
logged l g t ts ChoiceRow = with_note l g (row_note OfChoice (line_of t) 0 (text_of t))
logged l g t ts WaveformOpened =
    cond (leb (min most_waveforms l.waveforms) g.counts.waveforms) (full (bare 17) (line_of t) g)
    (going (record { notes = g.notes; counts = more_waveforms g.counts }))
logged l g t ts TableRow = going (record { notes = g.notes; counts = more_rows g.counts })
logged l g t ts (Ended f) =
    cond (eqb g.counts.components 0) (full (bare 9) (line_of t) g)
    (cond (eqb f.number 0) (going g) (full f (line_of t) g))

-- ---- lines from the top, names not compared yet: the first fault, and what is noted up to it

pub record Finish : Type 0 where
  pub fault : Option Fault
  pub log : Log

abbrev pub whole : Log → Finish
whole g = record { fault = None; log = g }

abbrev pub broken : Fault → Log → Finish
broken f g = record { fault = Some f; log = g }

-- "A file that runs out gives 19"
abbrev pub out_of_lines : ℕ → Log → Stage → Finish
out_of_lines past g s = cond (is_ended s) (whole g) (broken (at_line past (bare 19)) g)

abbrev pub after_logged : (Log → Finish) → Logged → Finish
after_logged go (going g) = go g
after_logged go (full f k g) = broken (at_line k f) g

abbrev pub after_went : Lengths → Log → Text → List Text → (Stage → Log → Finish) → Went → Finish
after_went l g t ts go (Ok (s, e)) = after_logged (go s) (logged l g t ts e)
after_went l g t ts go (Err f) = broken f g

unfoldable pub run_log : Lengths → ℕ → Stage → Log → List Text → Finish
run_log l past s g [] = out_of_lines past g s
run_log l past s g (t ∷ ts) = after_went l g t ts (λ (u : Stage) (h : Log). run_log l past u h ts) (on_text s t)

-- ---- names used twice: the line of the first, or none; entries are the latest first

abbrev pub or_used : Entry → Bool → Option ℕ → Option ℕ
or_used e u (Some k) = Some k
or_used e true None = Some e.line
or_used e false None = None

unfoldable pub clash : List Entry → Option ℕ
clash [] = None
clash (e ∷ es) = or_used e (is_used e.kind e.name es) (clash es)

-- a name used twice wins over the fault found, which stands at a later line, or at the same line and comes later
abbrev pub outcome_is : Log → Option Fault → Outcome
outcome_is g None = passed (held_of g)
outcome_is g (Some f) = refused f.number f.line f.column

abbrev pub settled : Finish → Option ℕ → Outcome
settled f (Some k) = refused 14 k 0
settled f None = outcome_is f.log f.fault
