-- What the line says, or a fault.
use mathlib.Core.Path.{sym, ap, ◌∙◌}
use Rattle.laws.specs.Said.{or_else}
use Rattle.model_record.proofs.FirstLaws.{cells-said}
use Rattle.model_record.proofs.firsts.comp_after.Goals as goal

pub returns-in-Ok : goal.returns-in-Ok
returns-in-Ok c =
    let before = c.args.before in
    ap (λ r. or_else before r) (sym c.in-Ok.is) ∙ cells-said c.args.w.now before _ c.cells_line.ensures

pub returns-in-Err : goal.returns-in-Err
returns-in-Err c =
    let before = c.args.before in
    ap (λ r. or_else before r) (sym c.in-Err.is) ∙ cells-said c.args.w.now before _ c.cells_line.ensures
