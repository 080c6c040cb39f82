-- No name of a first line; else given before, a line with a fault, or on: `once-stopped`, `once-given`.
use mathlib.Core.Path.{sym, ap, ◌∙◌}
use Rattle.records.specs.Flaws.{Flaw, told, checked}
use Rattle.line_faults.proofs.Laws.{first-named}
use Rattle.records.specs.declared.LineFault.{LineFault}
use Rattle.rules.specs.Going.{stop_at, quietly}
use Rattle.rules.specs.Model.{with_first}
use Rattle.rules.specs.declared.Stage.TheVariants.{InModel}
use Rattle.rules.proofs.Going.{once-stopped, once-given}
use Rattle.model_steps.proofs.body.first_line.Goals as goal

pub returns-in_default : goal.returns-in_default
returns-in_default c = rw (sym c.model_line.ensures ∙ c.in_default.is) (c.stopped_at.ensures ∙ ap (λ (f : LineFault). stop_at f c.args.k) c.name_fault.ensures)

pub returns-in_err-first : goal.returns-in_err-first
returns-in_err-first c =
    let a = c.args in
    let at = sym c.model_line.ensures ∙ c.in-Some.is in
    let e = c.first_fault.ensures ∙ ap (λ (f : Flaw). checked (told a.w.now f)) (first-named _ a.w.now at) in
    rw at (once-stopped _ _ _ _ (λ g. InModel (with_first a.m a.w.now g)) e c.once.ensures _ c.from_residual.ensures.1 c.in_err-first.was)

pub with_first-requires : goal.with_first-requires
with_first-requires c = sym c.model_line.ensures ∙ c.in-Some.is

pub returns : goal.returns
returns c =
    let a = c.args in
    let at = sym c.model_line.ensures ∙ c.in-Some.is in
    let e = c.first_fault.ensures ∙ ap (λ (f : Flaw). checked (told a.w.now f)) (first-named _ a.w.now at) in
    rw at
    (c.quiet.ensures
    ∙ ap (λ (m : _). quietly (InModel m)) c.with_first.ensures
    ∙ once-given _ _ _ _ (λ g. InModel (with_first a.m a.w.now g)) e c.once.ensures c.in_ok-first.was)
