-- Another line, what the line says, or a fault.
use mathlib.Core.Path.{sym, ap, ◌∙◌}
use borrow.Author.Tests.{eq-eqb, ne_eqb}
use Rattle.laws.proofs.Tests.{cond_yes, cond_no}
use Rattle.laws.specs.Said.{or_else, read_on}
use Rattle.model_record.proofs.FirstLaws.{present, group-said}
use Rattle.model_record.proofs.firsts.group_after.Goals as goal

pub returns-then-n-place : goal.returns-then-n-place
returns-then-n-place c = sym (cond_no _ _ (ne_eqb _ _ c.if-n-place.true))

pub returns-in-Ok : goal.returns-in-Ok
returns-in-Ok c =
    let w = c.args.w.now in
    let before = c.args.before in
    ap (λ r. or_else before (read_on r present)) (sym c.in-Ok.is) ∙ group-said w before _ c.cells_line.ensures
    ∙ sym (cond_yes _ _ (eq-eqb _ _ c.if-n-place.false))

pub returns-in-Err : goal.returns-in-Err
returns-in-Err c =
    let w = c.args.w.now in
    let before = c.args.before in
    ap (λ r. or_else before (read_on r present)) (sym c.in-Err.is) ∙ group-said w before _ c.cells_line.ensures
    ∙ sym (cond_yes _ _ (eq-eqb _ _ c.if-n-place.false))
