-- A cell's line: the double's 64 bits as 16 hexadecimal digits, `NA`, or 24.
use Rattle.std.specs.Prelude.{ℕ, List, [], ◌∷◌, ◌++◌, Result, Ok, Err}
use Rattle.std.specs.Float.{binary64}
use Rattle.std.specs.Float.Ieee.{to_bits}
use Rattle.laws.specs.Bytes.{bytes}
use Rattle.decimal.specs.declared.Cell.{Cell}
use Rattle.doubles.specs.Double.{double_of}
use Rattle.doubles.specs.declared.CellDouble.TheVariants.{Double, Missing}
use Rattle.doubles.specs.declared.CellDouble.{CellDouble}
use Rattle.text_buffer.specs.Numerals.{numeral_of, hexadecimal}

abbrev pub answer_text : Result CellDouble ℕ → List ℕ
answer_text (Ok (Double x)) = hexadecimal 16 (to_bits binary64 x)
answer_text (Ok Missing) = bytes "NA"
answer_text (Err n) = numeral_of n

unfoldable pub cell_line : Cell → List ℕ
cell_line c = answer_text (double_of c) ++ bytes "\n"

unfoldable pub cell_lines : List Cell → List ℕ
cell_lines [] = []
cell_lines (c ∷ cs) = cell_line c ++ cell_lines cs
