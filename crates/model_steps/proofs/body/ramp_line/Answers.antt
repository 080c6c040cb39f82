-- No name of a ramp's line; else given before, a line with a fault, or on: `once-stopped`, `once-given`.
use mathlib.Core.Path.{sym, ap, ◌∙◌}
use Rattle.records.specs.Flaws.{Flaw, told, checked}
use Rattle.line_faults.proofs.Laws.{ramp-named}
use Rattle.records.specs.declared.LineFault.{LineFault}
use Rattle.rules.specs.Going.{stop_at, quietly}
use Rattle.rules.specs.Model.{with_model_list}
use Rattle.rules.specs.declared.ModelList.TheVariants.{RampLines}
use Rattle.rules.specs.declared.Stage.TheVariants.{InModel}
use Rattle.rules.proofs.Going.{once-stopped, once-given}
use Rattle.model_steps.proofs.body.ramp_line.Goals as goal

pub returns-in_default : goal.returns-in_default
returns-in_default c = rw (sym c.ramp_line.ensures ∙ c.in_default.is) (c.stopped_at.ensures ∙ ap (λ (f : LineFault). stop_at f c.args.k) c.name_fault.ensures)

pub returns-in_err-given : goal.returns-in_err-given
returns-in_err-given c =
    let a = c.args in
    let at = sym c.ramp_line.ensures ∙ c.in-Some.is in
    let e = c.ramp_line_fault.ensures ∙ ap (λ (f : Flaw). checked (told a.w.now f)) (ramp-named _ a.w.now at) in
    rw at (once-stopped _ _ _ _ (λ g. InModel (with_model_list a.m (RampLines a.line g))) e c.once.ensures _ c.from_residual.ensures.1 c.in_err-given.was)

pub returns : goal.returns
returns c =
    let a = c.args in
    let at = sym c.ramp_line.ensures ∙ c.in-Some.is in
    let e = c.ramp_line_fault.ensures ∙ ap (λ (f : Flaw). checked (told a.w.now f)) (ramp-named _ a.w.now at) in
    rw at
    (c.quiet.ensures
    ∙ ap (λ (m : _). quietly (InModel m)) c.with_list.ensures
    ∙ once-given _ _ _ _ (λ g. InModel (with_model_list a.m (RampLines a.line g))) e c.once.ensures c.in_ok-given.was)
