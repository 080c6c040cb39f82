-- Not such a line; else given before, a fault of its word, or on: `once-stopped`, `once-given`.
use mathlib.Core.Path.{sym, ap, ◌∙◌}
use Rattle.records.specs.declared.LineFault.{LineFault}
use Rattle.rules.specs.Going.{stop_at}
use Rattle.rules.specs.declared.Stage.TheVariants.{InComponent}
use Rattle.rules.proofs.Going.{once-stopped, once-given}
use Rattle.component_steps.proofs.location_line.Goals as goal

pub returns-in_default : goal.returns-in_default
returns-in_default c = rw (sym c.component_line.ensures ∙ c.in_default.is) (c.stopped_at.ensures ∙ ap (λ (f : LineFault). stop_at f c.args.k) c.name_fault.ensures)

pub returns-in_err-first : goal.returns-in_err-first
returns-in_err-first c =
    let a = c.args in
    rw (sym c.component_line.ensures ∙ c.in-Some.is)
    (once-stopped _ _ _ _ (λ g. InComponent (record { line = a.c.line; first = g; parts = a.c.parts; list = a.c.list })) c.location_fault.ensures c.once.ensures _ c.from_residual.ensures.1 c.in_err-first.was)

pub returns : goal.returns
returns c =
    let a = c.args in
    rw (sym c.component_line.ensures ∙ c.in-Some.is)
    (once-given _ _ _ _ (λ g. InComponent (record { line = a.c.line; first = g; parts = a.c.parts; list = a.c.list })) c.location_fault.ensures c.once.ensures c.in_ok-first.was)
