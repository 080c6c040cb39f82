-- Each cell's answer is told, and its double put at its place.
use mathlib.Core.Path.{refl}
use Rattle.records.specs.Cells.{row_cells}
use Rattle.olhovest.proofs.cells.put_row.Goals as goal

pub returns : goal.returns
unfolding row_cells
returns c =
    let number = c.double_of-number.ensures in
    let typ = c.double_of-typ.ensures in
    let min = c.double_of-min.ensures in
    let max = c.double_of-max.ensures in
    record {
      values_after = rw (c.put_value-4.ensures, c.put_value-3.ensures, c.put_value-2.ensures, c.put_value.ensures, number, typ, min, max) refl;
      answers_after = rw (c.answer_number-4.ensures, c.answer_number-3.ensures, c.answer_number-2.ensures, c.answer_number.ensures, number, typ, min, max) refl;
    }
