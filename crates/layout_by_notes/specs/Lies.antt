-- What the notes of an accepted file say of the lent tables: a record for each note, read from the texts that stand behind its keyword.
use Rattle.std.specs.Prelude.{◌≤◌, min, ◌≡◌, Bool, cond, length}
use mathlib.Core.List.{List, [], ◌∷◌, map, flat_map, reverse}
use Rattle.laws.specs.Lists.{front}
use Rattle.cut_lines.specs.Texts.{Text}
use Rattle.rules.specs.Component.{pin_in}
use Rattle.rules.specs.Outline.{is}
use Rattle.rules.specs.Whole.{bound}
use Rattle.rules.specs.Reading.{is_within, pins_in, component_in, choice_in, choices_in, model_in, TableIs, tables_in}
use Rattle.layout.specs.Laid.{Laid, counts_of, rows_of, table_at, waveforms_laid}
use Rattle.records.specs.Bounds.{most_waveforms}
use Rattle.records.specs.Stored.{name_laid}
use Rattle.records.specs.declared.Kind.{Kind}
use Rattle.records.specs.declared.Kind.TheVariants.{OfComponent, OfPin, OfSelector, OfChoice, OfModel}
use Rattle.records.specs.declared.Lengths.{Lengths}
use Rattle.records.specs.declared.Counts.{Counts}
use Rattle.records.specs.declared.Row.{Row}
use Rattle.records.specs.declared.Component.{Component}
use Rattle.records.specs.declared.Pin.{Pin}
use Rattle.records.specs.declared.Selector.{Selector}
use Rattle.records.specs.declared.Choice.{Choice}
use Rattle.records.specs.declared.Model.{Model}
use Rattle.records.specs.declared.Waveform.{Waveform}
use Rattle.notes.specs.Noted.{Note, entry_of, Log}

-- ---- the notes of one kind, in file order

-- the elements that pass the test
unfoldable pub pick : {A : Type 0} → (A → Bool) → List A → List A
pick p [] = []
pick p (a ∷ l) = cond (p a) (a ∷ pick p l) (pick p l)

abbrev pub is_of : Kind → Note → Bool
is_of k n = is k (entry_of n)

unfoldable pub noted : Kind → Log → List Note
noted k g = reverse (pick (is_of k) g.notes)

-- ---- the record of a note. A section's texts are those behind its keyword, up to the next section's keyword or [End]

abbrev pub texts_noted : Note → List Text
texts_noted n = front is_within n.behind

unfoldable pub component_noted : Note → Component
component_noted n = component_in n.section (record { start = n.start; count = length (pins_in (texts_noted n)) }) n.name (texts_noted n)

unfoldable pub pin_noted : Note → Pin
pin_noted n = pin_in n.text

unfoldable pub selector_noted : Note → Selector
selector_noted n =
    record { section = n.section; name = name_laid n.name; choices = record { start = n.start; count = length (choices_in (texts_noted n)) } }

unfoldable pub choice_noted : Note → Choice
choice_noted n = choice_in n.text

-- the tables of a noted model, and their rows
abbrev pub tables_noted : Note → List TableIs
tables_noted n = tables_in (texts_noted n)

unfoldable pub model_noted : Note → Model
model_noted n =
    model_in n.section (table_at (tables_noted n) n.row) (record { start = n.start; count = length (waveforms_laid (tables_noted n) n.row) }) n.name (texts_noted n)

unfoldable pub rows_noted : Note → List Row
rows_noted n = flat_map rows_of (tables_noted n)

-- its waveforms, in its tables
unfoldable pub waveforms_noted : Note → List Waveform
waveforms_noted n = waveforms_laid (tables_noted n) n.row

-- ---- the tables lie as noted

pub record Lies (g : Log) (a : Laid) : Type 0 where
  pub components : a.components ≡ map component_noted (noted OfComponent g)
  pub pins : a.pins ≡ map pin_noted (noted OfPin g)
  pub selectors : a.selectors ≡ map selector_noted (noted OfSelector g)
  pub choices : a.choices ≡ map choice_noted (noted OfChoice g)
  pub models : a.models ≡ map model_noted (noted OfModel g)
  pub waveforms : a.waveforms ≡ flat_map waveforms_noted (noted OfModel g)
  pub rows : a.rows ≡ flat_map rows_noted (noted OfModel g)
  pub counts : g.counts ≡ counts_of a

-- ---- no table other than the rows is used beyond its bound, and none beyond what is lent

pub record Bounded (l : Lengths) (c : Counts) : Type 0 where
  pub components : c.components ≤ bound l OfComponent
  pub pins : c.pins ≤ bound l OfPin
  pub selectors : c.selectors ≤ bound l OfSelector
  pub choices : c.choices ≤ bound l OfChoice
  pub models : c.models ≤ bound l OfModel
  pub waveforms : c.waveforms ≤ min most_waveforms l.waveforms

pub record Fits (l : Lengths) (c : Counts) : Type 0 where
  pub components : c.components ≤ l.components
  pub pins : c.pins ≤ l.pins
  pub selectors : c.selectors ≤ l.selectors
  pub choices : c.choices ≤ l.choices
  pub models : c.models ≤ l.models
  pub waveforms : c.waveforms ≤ l.waveforms
