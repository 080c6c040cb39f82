-- Not such a line; else given before, a fault of its cells, or on: `once-stopped`, `once-given`.
use mathlib.Core.Path.{sym, ap, ◌∙◌}
use Rattle.records.specs.declared.LineFault.{LineFault}
use Rattle.rules.specs.Going.{stop_at}
use Rattle.rules.specs.Component.{with_list}
use Rattle.rules.specs.declared.ComponentList.TheVariants.{PackageLines}
use Rattle.rules.specs.declared.Stage.TheVariants.{InComponent}
use Rattle.rules.proofs.Going.{once-stopped, once-given}
use Rattle.component_steps.proofs.package_line.Goals as goal

pub returns-in_default : goal.returns-in_default
returns-in_default c = rw (sym c.package_line.ensures ∙ c.in_default.is) (c.stopped_at.ensures ∙ ap (λ (f : LineFault). stop_at f c.args.k) c.name_fault.ensures)

pub returns-in_err-given : goal.returns-in_err-given
returns-in_err-given c =
    let a = c.args in
    rw (sym c.package_line.ensures ∙ c.in-Some.is)
    (once-stopped _ _ _ _ (λ g. InComponent (with_list a.c (PackageLines a.o g))) c.cells_fault.ensures c.once.ensures _ c.from_residual.ensures.1 c.in_err-given.was)

pub returns : goal.returns
returns c =
    let a = c.args in
    rw (sym c.package_line.ensures ∙ c.in-Some.is)
    (once-given _ _ _ _ (λ g. InComponent (with_list a.c (PackageLines a.o g))) c.cells_fault.ensures c.once.ensures c.in_ok-given.was)
