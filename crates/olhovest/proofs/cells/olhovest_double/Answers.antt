-- By the answer: it is the word's cell's.
use Rattle.std.specs.Prelude.{ℕ, Result, Ok}
use Rattle.doubles.specs.declared.CellDouble.{CellDouble}
use mathlib.Core.Path.{sym, ap, ◌∙◌}
use Rattle.olhovest.specs.Doubles.{double_number, double_left}
use Rattle.olhovest.proofs.cells.olhovest_double.Goals as goal

pub returns-in-Double : goal.returns-in-Double
returns-in-Double c =
    let is = sym (ap Ok c.in-Double.is) ∙ sym c.in-Ok.is ∙ c.double_in.ensures in
    record {
      value = ap double_number is;
      value_after = ap (λ (a : Result CellDouble ℕ). double_left a c.args.value.now) is;
    }

pub returns-in-Missing : goal.returns-in-Missing
returns-in-Missing c =
    let is = sym (ap Ok c.in-Missing.is) ∙ sym c.in-Ok.is ∙ c.double_in.ensures in
    record {
      value = ap double_number is;
      value_after = ap (λ (a : Result CellDouble ℕ). double_left a c.args.value.now) is;
    }

pub returns-in-Err : goal.returns-in-Err
returns-in-Err c =
    let is = sym c.in-Err.is ∙ c.double_in.ensures in
    record {
      value = ap double_number is;
      value_after = ap (λ (a : Result CellDouble ℕ). double_left a c.args.value.now) is;
    }
