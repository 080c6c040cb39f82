-- By whether there is a row.
use Rattle.std.specs.Prelude.{Option}
use Rattle.records.specs.declared.Row.{Row}
use mathlib.Core.Path.{sym, ap, ◌∙◌}
use Rattle.olhovest.specs.Exported.{row_number}
use Rattle.olhovest.specs.Doubles.{values_left, answers_left}
use Rattle.olhovest.proofs.cells.olhovest_row_doubles.Goals as goal

pub returns-in-Some : goal.returns-in-Some
returns-in-Some c =
    let is = sym c.in-Some.is ∙ c.row_in.ensures in
    let a = c.args in
    record {
      value = ap row_number is;
      values_after = c.put_row.ensures.values_after ∙ ap (λ (f : Option Row). values_left f a.values.now) is;
      answers_after = c.put_row.ensures.answers_after ∙ ap (λ (f : Option Row). answers_left f a.answers.now) is;
    }

pub returns-in-None : goal.returns-in-None
returns-in-None c =
    let is = sym c.in-None.is ∙ c.row_in.ensures in
    let a = c.args in
    record {
      value = ap row_number is;
      values_after = ap (λ (f : Option Row). values_left f a.values.now) is;
      answers_after = ap (λ (f : Option Row). answers_left f a.answers.now) is;
    }
