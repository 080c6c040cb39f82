-- The die capacitance of a model and of its structures, in picofarads and in columns.
use Rattle.std.specs.Prelude.{ℕ, List, ◌++◌, cond}
use Rattle.laws.specs.Bytes.{bytes}
use Rattle.decimal.specs.declared.Cell.{Cell}
use Rattle.decimal.specs.declared.Cell.TheVariants.{Number, Missing}
use Rattle.records.specs.declared.Model.{Model}
use Rattle.records.specs.declared.Range.{Range}
use Rattle.text_buffer.specs.Lines.{name_text}
use Rattle.text_buffer.specs.Numerals.{unit_text}
use Rattle.explain_text.specs.Summaries.{column}

-- written out; a missing cell is a dash
abbrev pub picofarads : Cell → List ℕ
picofarads (Number d) = unit_text 28 d
picofarads Missing = bytes "-"

-- the typ of a structure; a dash where it is absent
unfoldable pub part_text : Range → List ℕ
part_text r = cond r.given (picofarads r.cells.typ) (bytes "-")

-- behind an empty line; width is that of the models' column
unfoldable pub capacitance_heading : ℕ → List ℕ
capacitance_heading width =
    bytes "\ndie capacitance, typ (pF)\n  " ++ column width (bytes "model") ++ bytes "C_comp  pullup  pulldown  power clamp  gnd clamp\n"

unfoldable pub capacitance_row : ℕ → Model → List ℕ
capacitance_row width m =
    bytes "  " ++ column width (name_text m.name) ++ column 6 (picofarads m.comp.typ) ++ column 6 (part_text m.split.pullup)
    ++ column 8 (part_text m.split.pulldown)
    ++ column 11 (part_text m.split.power)
    ++ part_text m.split.ground
    ++ bytes "\n"
