-- By the answer: only a double is written.
use Rattle.std.specs.Prelude.{ℕ, Result, Ok}
use Rattle.doubles.specs.declared.CellDouble.{CellDouble}
use mathlib.Core.Path.{sym, ap, ◌∙◌}
use Rattle.olhovest.specs.Doubles.{value_put}
use Rattle.olhovest.proofs.cells.put_value.Goals as goal

pub returns-in-Double : goal.returns-in-Double
returns-in-Double c =
    let is = sym (ap Ok c.in-Double.is) ∙ sym c.in-Ok.is in
    ap (λ (a : Result CellDouble ℕ). value_put a c.args.i c.args.values.now) is
