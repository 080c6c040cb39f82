-- When two files say the same.
use Rattle.std.specs.Prelude.{ℕ, List, [], ◌∷◌, ◌++◌, false, cond, ◌≡◌, Option, None, Some}
use Prim.Native.String.{String}
use Rattle.laws.specs.Bytes.{bytes}
use Rattle.laws.specs.Lists.{eqs, one_of}
use Rattle.words.specs.Words.{words}
use Rattle.cut_lines.specs.Texts.{Text}
use Rattle.line_rules.specs.Tables.{waveform_keywords}
use Rattle.rules.specs.Reading.{pins_in, component_in, choices_in, model_in, TableIs, tables_in, rows_in, edge_of, waveform_in, SectionIs, component, selector, model, FileIs}
use Rattle.records.specs.Stored.{name_laid, words_laid}
use Rattle.records.specs.declared.Row.{Row}
use Rattle.records.specs.declared.Span.{Span}
use Rattle.records.specs.declared.Table.{Table}
use Rattle.records.specs.declared.Waveform.{Waveform}

-- ---- "Kept is all that is read, the order of sections and of waveforms included, but not" "the order of other parts within a section";
-- "where a table's rows lie in the row store doesn't count": so all lies at place 0 here, and tables are looked at by their rows

abbrev pub nowhere : Span
nowhere = record { start = 0; count = 0 }

abbrev pub no_table : String → Table
no_table key = record { given = false; rows = nowhere }

-- the rows of a current table, if it is there
unfoldable pub table_of : List TableIs → String → Option (List Row)
table_of [] key = None
table_of (t ∷ ts) key = cond (eqs t.key (bytes key)) (Some (rows_in t.lines)) (table_of ts key)

unfoldable pub waveforms_of : List TableIs → List (Waveform × List Row)
waveforms_of [] = []
waveforms_of (t ∷ ts) =
    cond (one_of t.key (words (bytes waveform_keywords))) ((waveform_in 0 (edge_of t.key) t.lines, rows_in t.lines) ∷ []) [] ++ waveforms_of ts

-- "Tables say the same if all that is kept is equal"
pub record SameModel (v : List ℕ) (ts : List Text) (w : List ℕ) (us : List Text) : Type 0 where
  pub model : model_in 0 no_table nowhere v ts ≡ model_in 0 no_table nowhere w us
  pub pulldown : table_of (tables_in ts) "pulldown" ≡ table_of (tables_in us) "pulldown"
  pub pullup : table_of (tables_in ts) "pullup" ≡ table_of (tables_in us) "pullup"
  pub ground : table_of (tables_in ts) "gnd_clamp" ≡ table_of (tables_in us) "gnd_clamp"
  pub power : table_of (tables_in ts) "power_clamp" ≡ table_of (tables_in us) "power_clamp"
  pub waveforms : waveforms_of (tables_in ts) ≡ waveforms_of (tables_in us)

abbrev pub SameSection : SectionIs → SectionIs → Type 0
SameSection (component v ts) (component w us) = (component_in 0 nowhere v ts ≡ component_in 0 nowhere w us) × (pins_in ts ≡ pins_in us)
SameSection (component v ts) (selector w us) = ⊥
SameSection (component v ts) (model w us) = ⊥
SameSection (selector v ts) (component w us) = ⊥
SameSection (selector v ts) (selector w us) = (name_laid v ≡ name_laid w) × (choices_in ts ≡ choices_in us)
SameSection (selector v ts) (model w us) = ⊥
SameSection (model v ts) (component w us) = ⊥
SameSection (model v ts) (selector w us) = ⊥
SameSection (model v ts) (model w us) = SameModel v ts w us

abbrev pub SameSections : List SectionIs → List SectionIs → Type 0
SameSections [] [] = Unit {0}
SameSections [] (b ∷ bs) = ⊥
SameSections (a ∷ xs) [] = ⊥
SameSections (a ∷ xs) (b ∷ bs) = SameSection a b × SameSections xs bs

pub record SaysTheSame (f g : FileIs) : Type 0 where
  pub name : words_laid f.name ≡ words_laid g.name
  pub revision : words_laid f.revision ≡ words_laid g.revision
  pub sections : SameSections f.sections g.sections
