-- Every record that document 01 reads from a file of bytes is fine, whether the file is accepted or not: so its words read back as itself.
use Rattle.std.specs.Prelude.{ℕ, List}
use Rattle.laws.specs.Lists.{Every}
use Rattle.rules.specs.Whole.{texts_of}
use Rattle.rules.specs.Reading.{file_in}
use Rattle.layout.specs.Laid.{Laid, laid}
use Rattle.table_records.specs.Fine.{AreBytes, FineComponent, FinePin, FineSelector, FineChoice, FineModel, FineWaveform, FineRow}

-- every element has it
abbrev pub Each : {A : Type 0} → (A → Type 0) → List A → Type 0
Each P l = Every P l

pub record FineTables (a : Laid) : Type 0 where
  pub components : Each FineComponent a.components
  pub pins : Each FinePin a.pins
  pub selectors : Each FineSelector a.selectors
  pub choices : Each FineChoice a.choices
  pub models : Each FineModel a.models
  pub waveforms : Each FineWaveform a.waveforms
  pub rows : Each FineRow a.rows

abbrev pub ReadFine : Type 0
ReadFine = (s : List ℕ) → AreBytes s → FineTables (laid (file_in (texts_of s)))
