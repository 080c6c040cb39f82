-- Every cell that document 01 reads from a file of bytes is given faithfully as a double, whether the file is accepted or not.
use Rattle.std.specs.Prelude.{ℕ, ◌≡◌, List}
use Rattle.laws.specs.Lists.{Every}
use Rattle.decimal.specs.Decimal.{word_of}
use Rattle.decimal.specs.Answers.{cell_in}
use Rattle.decimal.specs.declared.Cell.{Cell}
use Rattle.doubles.specs.Double.{double_of}
use Rattle.doubles.specs.Faithful.{AllCount, Faithful}
use Rattle.records.specs.Cells.{component_cells, pin_cells, model_cells, ramp_cells, waveform_cells, row_cells}
use Rattle.rules.specs.Whole.{texts_of}
use Rattle.rules.specs.Reading.{file_in}
use Rattle.layout.specs.Laid.{Laid, laid}
use Rattle.table_records.specs.Fine.{AreBytes}

pub record Given (c : Cell) : Type 0 where
  -- of its number no digit is left out
  pub counts : AllCount c
  -- the answer is what it should be
  pub faithful : Faithful c (double_of c)
  -- and its word of the tables in words gives the same
  pub word : double_of (cell_in (word_of c)) ≡ double_of c

-- each cell of each record
pub record AllGiven (a : Laid) : Type 0 where
  pub components : Every (λ c. Every Given (component_cells c)) a.components
  pub pins : Every (λ p. Every Given (pin_cells p)) a.pins
  pub models : Every (λ m. Every Given (model_cells m)) a.models
  pub ramps : Every (λ m. Every Given (ramp_cells m.ramp)) a.models
  pub waveforms : Every (λ w. Every Given (waveform_cells w)) a.waveforms
  pub rows : Every (λ r. Every Given (row_cells r)) a.rows

abbrev pub ReadGiven : Type 0
ReadGiven = (s : List ℕ) → AreBytes s → AllGiven (laid (file_in (texts_of s)))
