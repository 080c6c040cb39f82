-- The rows of [Pin], passed one after another, as the code answers it.
use Rattle.std.specs.Prelude.{ℕ, ◌+◌, ◌≤◌, ◌≡◌, List, Bool, true, false, Ok}
use Rattle.laws.specs.Lists.{part}
use Rattle.line_rules.specs.Fields.{is_bracketed}
use Rattle.cut_lines.specs.Cursors.{Goes}
use Rattle.cut_lines.specs.declared.Cursor.{Cursor}
use Rattle.records.specs.declared.Kind.TheVariants.{OfPin}
use Rattle.records.specs.declared.Lengths.{Lengths}
use Rattle.rules.specs.Component.{pin_flaw}
use Rattle.rules.specs.Steps.{on_plain}
use Rattle.rules.specs.declared.Stage.{Stage}
use Rattle.rules.specs.declared.Event.TheVariants.{PinRow}
use Rattle.component_steps.specs.Steps.{NamesLie}
use Rattle.component_steps.specs.declared.PinNames.{PinNames}
use Rattle.note_words.specs.Store.{lies_at, words_of_row, with_name}
use Rattle.note_words.specs.declared.RowNote.{RowNote}
use Rattle.noted_events.specs.Events.{KeptCounts}
use Rattle.noted_events.specs.declared.Tally.{Tally}
use Rattle.file_answer.specs.Scans.{standing, run_from, Ground}
use Rattle.file_answer.specs.declared.PinsPassed.{PinsPassed}

-- ---- one pin; xs is the store before, ys behind it

-- the note of the text from a to e, whose names lie there
abbrev pub pin_note : ℕ → ℕ → PinNames → RowNote
pin_note a e r =
    record { at = a; name = a + r.pin.start; name_end = a + r.pin.end; model = a + r.model.start; model_end = a + r.model.end; text_end = e }

-- the text from a to e is a pin row, and is noted as name i in file order and pin j
pub record PinPut (s xs : List ℕ) (i j a e : ℕ) (long : Bool) (ys : List ℕ) : Type 0 where
  pub unbracketed : is_bracketed (part a e s) ≡ false
  pub pin : (pin_flaw long (part a e s)).number ≡ 0
  pub names : PinNames
  pub lie : NamesLie (part a e s) names
  pub written : ys ≡ with_name xs i (lies_at OfPin j) (words_of_row (pin_note a e names))

abbrev pub PinNoted : List ℕ → List ℕ → ℕ → ℕ → ℕ → ℕ → Bool → List ℕ → Bool → Type 0
PinNoted s xs i j a e long ys true = PinPut s xs i j a e long ys
PinNoted s xs i j a e long ys false = ys ≡ xs

-- with so many names and pins
abbrev pub with_pins : Tally → ℕ → ℕ → Tally
with_pins t names pins =
    record { names = names; counts = record { components = t.counts.components; pins = pins; selectors = t.counts.selectors; choices = t.counts.choices; models = t.counts.models; waveforms = t.counts.waveforms; rows = t.counts.rows } }

abbrev pub one_pin : Tally → Tally
one_pin t = with_pins t (t.names + 1) (t.counts.pins + 1)

-- ---- pins

-- a stage in which pin rows are read, and which they leave as it is
abbrev pub KeepsPins : Stage → Bool → Type 0
KeepsPins g long = (k : ℕ) (w : List ℕ) → is_bracketed w ≡ false → (pin_flaw long w).number ≡ 0 → on_plain g k w ≡ Ok (g, PinRow)

-- the texts from c on begin with a pin row
pub record PinNext (l : Lengths) (s xs : List ℕ) (c : Cursor) (t : Tally) (long : Bool) (ys : List ℕ) (next : Cursor) : Type 0 where
  pub says : (g : Stage) → KeepsPins g long → run_from l s xs (standing g c t) ≡ run_from l s ys (standing g next (one_pin t))
  pub goes : Goes s c next
  pub kept : KeptCounts ys t (one_pin t)

-- from behind the pins the lines say what they say from before them
pub record PinsAre (l : Lengths) (s xs : List ℕ) (c : Cursor) (t : Tally) (long : Bool) (ys : List ℕ) (p : PinsPassed) : Type 0 where
  pub says : (g : Stage) → KeepsPins g long → run_from l s xs (standing g c t) ≡ run_from l s ys (standing g p.cursor p.tally)
  pub ground : Ground s ys p.cursor p.tally
  pub from : c.at ≤ p.cursor.at
