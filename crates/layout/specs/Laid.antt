-- How a file lies in the lent tables: each table from its start on.
use Rattle.std.specs.Prelude.{ℕ, ◌+◌, true, false, cond, length}
use Prim.Native.String.{String}
use mathlib.Core.List.{List, [], ◌∷◌, ◌++◌, flat_map}
use Rattle.laws.specs.Bytes.{bytes}
use Rattle.laws.specs.Lists.{eqs, one_of}
use Rattle.words.specs.Words.{words}
use Rattle.line_rules.specs.Tables.{waveform_keywords}
use Rattle.rules.specs.Reading.{pins_in, component_in, choices_in, model_in, TableIs, tables_in, rows_in, edge_of, waveform_in, SectionIs, component, selector, model, FileIs}
use Rattle.records.specs.Stored.{name_laid}
use Rattle.records.specs.declared.Span.{Span}
use Rattle.records.specs.declared.Counts.{Counts}
use Rattle.records.specs.declared.Row.{Row}
use Rattle.records.specs.declared.Component.{Component}
use Rattle.records.specs.declared.Pin.{Pin}
use Rattle.records.specs.declared.Selector.{Selector}
use Rattle.records.specs.declared.Choice.{Choice}
use Rattle.records.specs.declared.Table.{Table}
use Rattle.records.specs.declared.Model.{Model}
use Rattle.records.specs.declared.Waveform.{Waveform}

-- ---- the tables: what lies in them from their start on

pub record Tables (R : Type 0) : Type 0 where
  pub components : List Component
  pub pins : List Pin
  pub selectors : List Selector
  pub choices : List Choice
  pub models : List Model
  pub waveforms : List Waveform
  pub rows : List R

-- the tables in this order
abbrev pub tables : {R : Type 0} → List Component → List Pin → List Selector → List Choice → List Model → List Waveform → List R → Tables R
tables cs ps ss hs ms ws rs = record { components = cs; pins = ps; selectors = ss; choices = hs; models = ms; waveforms = ws; rows = rs }

abbrev pub Laid : Type 0
Laid = Tables Row

-- how much of each table is used
abbrev pub counts_of : Laid → Counts
counts_of a =
    record { components = length a.components; pins = length a.pins; selectors = length a.selectors; choices = length a.choices; models = length a.models; waveforms = length a.waveforms; rows = length a.rows }

-- what lies behind what is there
abbrev pub behind : {A B : Type 0} → List A → List B → Span
behind before more = record { start = length before; count = length more }

-- ---- a model's tables; n is the next row's place

abbrev pub rows_of : TableIs → List Row
rows_of t = rows_in t.lines

unfoldable pub table_at : List TableIs → ℕ → String → Table
table_at [] n key = record { given = false; rows = record { start = 0; count = 0 } }
table_at (t ∷ ts) n key =
    cond (eqs t.key (bytes key)) (record { given = true; rows = record { start = n; count = length (rows_of t) } })
    (table_at ts (n + length (rows_of t)) key)

unfoldable pub waveforms_laid : List TableIs → ℕ → List Waveform
waveforms_laid [] n = []
waveforms_laid (t ∷ ts) n = cond (one_of t.key (words (bytes waveform_keywords))) (waveform_in n (edge_of t.key) t.lines ∷ []) [] ++ waveforms_laid ts (n + length (rows_of t))

-- ---- section by section, in file order; n is the section's place among them

abbrev pub with_section : Laid → ℕ → SectionIs → Laid
with_section l n (component w ts) =
    tables (l.components ++ (component_in n (behind l.pins (pins_in ts)) w ts ∷ [])) (l.pins ++ pins_in ts)
    l.selectors l.choices l.models l.waveforms l.rows
with_section l n (selector w ts) =
    tables l.components l.pins (l.selectors ++ (record { section = n; name = name_laid w; choices = behind l.choices (choices_in ts) } ∷ [])) (l.choices ++ choices_in ts)
    l.models l.waveforms l.rows
with_section l n (model w ts) =
    let first = length l.rows in
    let waves = waveforms_laid (tables_in ts) first in
    tables l.components l.pins l.selectors l.choices
    (l.models ++ (model_in n (table_at (tables_in ts) first) (behind l.waveforms waves) w ts ∷ []))
    (l.waveforms ++ waves) (l.rows ++ flat_map rows_of (tables_in ts))

unfoldable pub laid_from : Laid → ℕ → List SectionIs → Laid
laid_from l n [] = l
laid_from l n (s ∷ ss) = laid_from (with_section l n s) (n + 1) ss

unfoldable pub laid : FileIs → Laid
laid f = laid_from (tables [] [] [] [] [] [] []) 0 f.sections
