-- The records that the notes in a store of words say, one by one, and the waveforms and rows of its models; for any words.
use Rattle.std.specs.Prelude.{ℕ, zero, suc, ◌≡◌, List, [], ◌++◌, cond, drop, leb}
use Prim.Native.Char.{code}
use Rattle.laws.specs.Lists.{part}
use Rattle.cut_lines.specs.Cursors.{rest, Placed}
use Rattle.cut_lines.specs.declared.Cursor.{Cursor}
use Rattle.records.specs.declared.Kind.{Kind}
use Rattle.records.specs.declared.Kind.TheVariants.{OfComponent, OfPin, OfSelector, OfChoice, OfModel}
use Rattle.records.specs.declared.Row.{Row}
use Rattle.records.specs.declared.Component.{Component}
use Rattle.records.specs.declared.Pin.{Pin}
use Rattle.records.specs.declared.Selector.{Selector}
use Rattle.records.specs.declared.Choice.{Choice}
use Rattle.records.specs.declared.Model.{Model}
use Rattle.records.specs.declared.Waveform.{Waveform}
use Rattle.notes.specs.Noted.{Note}
use Rattle.note_words.specs.Store.{lies_at, section_at, row_at, note_of}
use Rattle.layout_by_notes.specs.Lies.{component_noted, pin_noted, selector_noted, choice_noted, model_noted, waveforms_noted, rows_noted}

-- ---- note i of a kind

abbrev pub note_by : List ℕ → List ℕ → Kind → ℕ → Note
note_by s ns k i = note_of s ns (lies_at k i) k

-- ---- the record at place i of each table

unfoldable pub component_at : List ℕ → List ℕ → ℕ → Component
component_at s ns i = component_noted (note_by s ns OfComponent i)

unfoldable pub pin_at : List ℕ → List ℕ → ℕ → Pin
pin_at s ns i = pin_noted (note_by s ns OfPin i)

unfoldable pub selector_at : List ℕ → List ℕ → ℕ → Selector
selector_at s ns i = selector_noted (note_by s ns OfSelector i)

unfoldable pub choice_at : List ℕ → List ℕ → ℕ → Choice
choice_at s ns i = choice_noted (note_by s ns OfChoice i)

unfoldable pub model_at : List ℕ → List ℕ → ℕ → Model
model_at s ns i = model_noted (note_by s ns OfModel i)

-- ---- one after the other

-- what f says of the first n
unfoldable pub joined_to : {A : Type 0} → (ℕ → List A) → ℕ → List A
joined_to f zero = []
joined_to f (suc n) = joined_to f n ++ f n

-- the waveforms and the rows of the first n models
abbrev pub waveforms_at : List ℕ → List ℕ → ℕ → List Waveform
waveforms_at s ns n = joined_to (λ k. waveforms_noted (note_by s ns OfModel k)) n

abbrev pub rows_at : List ℕ → List ℕ → ℕ → List Row
rows_at s ns n = joined_to (λ k. rows_noted (note_by s ns OfModel k)) n

-- ---- cursors from words

-- LF stands in no line, so it cuts as little as a word that is no byte
abbrev pub mark_of : ℕ → ℕ
mark_of n = cond (leb 256 n) (code "\n") n

-- c reads what stands from a place on under a comment character, its lines numbered from 1
pub record StandsAt (s : List ℕ) (at comment : ℕ) (c : Cursor) : Type 0 where
  pub placed : Placed s c
  pub texts : rest s c ≡ rest s (record { at = at; line = 1; comment = comment })

-- c stands behind the first of the texts that d reads; where there is none it reads none
pub record BehindText (s : List ℕ) (d c : Cursor) : Type 0 where
  pub placed : Placed s c
  pub texts : rest s c ≡ drop 1 (rest s d)

-- ---- the note that lies at a: a row's text, and what stands behind a section's keyword line

abbrev pub row_noted : List ℕ → List ℕ → ℕ → List ℕ
row_noted s ns a = part (row_at ns a).at (row_at ns a).text_end s

abbrev pub StandsBehind : List ℕ → List ℕ → ℕ → Cursor → Type 0
StandsBehind s ns a c = BehindText s (record { at = (section_at ns a).at; line = 1; comment = (section_at ns a).comment }) c
