-- The section that is noted, read from a cursor behind its keyword line: no line's number is read.
use Prim.Native.Nat.{ℕ}
use mathlib.Core.Path.{◌≡◌, ap, ◌∙◌}
use mathlib.Core.List.{List, map}
use lib.ListN.{length}
use Rattle.laws.specs.Lists.{front}
use Rattle.lines.specs.Places.{line_at}
use Rattle.cut_lines.specs.Texts.{Text}
use Rattle.cut_lines.specs.Cursors.{rest}
use Rattle.cut_lines.specs.declared.Cursor.{Cursor}
use Rattle.cut_lines.proofs.Renumbered.{text_at}
use Rattle.rules.specs.Reading.{is_within, pins_in, component_in, choices_in, model_in, TableIs, tables_in}
use Rattle.layout.specs.Laid.{table_at, waveforms_laid}
use Rattle.records.specs.Stored.{name_laid}
use Rattle.records.specs.declared.Pin.{Pin}
use Rattle.records.specs.declared.Choice.{Choice}
use Rattle.records.specs.declared.Component.{Component}
use Rattle.records.specs.declared.Selector.{Selector}
use Rattle.records.specs.declared.Model.{Model}
use Rattle.records.specs.declared.Kind.TheVariants.{OfComponent, OfSelector, OfModel}
use Rattle.note_words.specs.Store.{section_at, name_of, note_of}
use Rattle.note_words.specs.declared.SectionNote.{SectionNote}
use Rattle.layout_by_notes.specs.Lies.{component_noted, selector_noted, tables_noted, model_noted}
use Rattle.from_notes.specs.Made.{StandsBehind}
use Rattle.from_notes.proofs.Numberless.{stands-behind}
use Rattle.rules.proofs.Numberless.{Numberless, component-numberless, pins-numberless, choices-numberless, model-numberless, tables-within-numberless}

-- ---- a section's record, from the texts behind its keyword

abbrev component_from : ℕ → ℕ → List ℕ → List Text → Component
component_from n start name ts = component_in n (record { start = start; count = length (pins_in (front is_within ts)) }) name (front is_within ts)

component-from : (n start : ℕ) (name : List ℕ) → Numberless (component_from n start name)
component-from n start name f ts =
    ap (λ (ps : List Pin). component_in n (record { start = start; count = length ps }) name (front is_within (map (text_at f) ts))) (pins-numberless f ts)
    ∙ component-numberless n (record { start = start; count = length (pins_in (front is_within ts)) }) name f ts

abbrev selector_from : ℕ → ℕ → List ℕ → List Text → Selector
selector_from n start name ts = record { section = n; name = name_laid name; choices = record { start = start; count = length (choices_in (front is_within ts)) } }

selector-from : (n start : ℕ) (name : List ℕ) → Numberless (selector_from n start name)
selector-from n start name f ts =
    ap (λ (hs : List Choice). record { section = n; name = name_laid name; choices = record { start = start; count = length hs } }) (choices-numberless f ts)

abbrev model_by : ℕ → ℕ → ℕ → List ℕ → List TableIs → List Text → Model
model_by n row start name tables ts = model_in n (table_at tables row) (record { start = start; count = length (waveforms_laid tables row) }) name ts

abbrev model_from : ℕ → ℕ → ℕ → List ℕ → List Text → Model
model_from n row start name ts = model_by n row start name (tables_in (front is_within ts)) (front is_within ts)

model-from : (n row start : ℕ) (name : List ℕ) → Numberless (model_from n row start name)
model-from n row start name f ts =
    ap (λ (tables : List TableIs). model_by n row start name tables (front is_within (map (text_at f) ts))) (tables-within-numberless f ts)
    ∙ model-numberless n (table_at (tables_in (front is_within ts)) row) (record { start = start; count = length (waveforms_laid (tables_in (front is_within ts)) row) }) name f ts

-- ---- as noted

module _ (s ns : List ℕ) (a : ℕ) {c : Cursor} (h : StandsBehind s ns a c) where
  abbrev x : SectionNote
  x = section_at ns a

  abbrev name : List ℕ
  name = name_of s ns a

  pub component-noted : component_from x.section x.start name (rest s c) ≡ component_noted (note_of s ns a OfComponent)
  unfolding component_noted
  component-noted = stands-behind (component_from x.section x.start name) (component-from x.section x.start name) h (line_at s x.at)

  pub selector-noted : selector_from x.section x.start name (rest s c) ≡ selector_noted (note_of s ns a OfSelector)
  unfolding selector_noted
  selector-noted = stands-behind (selector_from x.section x.start name) (selector-from x.section x.start name) h (line_at s x.at)

  pub model-noted : model_from x.section x.row x.start name (rest s c) ≡ model_noted (note_of s ns a OfModel)
  unfolding model_noted
  model-noted = stands-behind (model_from x.section x.row x.start name) (model-from x.section x.row x.start name) h (line_at s x.at)

  pub tables-noted : tables_in (front is_within (rest s c)) ≡ tables_noted (note_of s ns a OfModel)
  tables-noted = stands-behind (λ (ts : List Text). tables_in (front is_within ts)) tables-within-numberless h (line_at s x.at)
