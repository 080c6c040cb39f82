-- No name of a fixture; else given before, a line with a fault, or on: `once-stopped`, `once-given`.
use mathlib.Core.Path.{sym, ap, ◌∙◌}
use Rattle.records.specs.declared.LineFault.{LineFault}
use Rattle.rules.specs.Going.{stop_at, quietly}
use Rattle.rules.specs.Model.{with_model_list}
use Rattle.rules.specs.declared.ModelList.TheVariants.{WaveformRows}
use Rattle.rules.specs.declared.Stage.TheVariants.{InModel}
use Rattle.rules.proofs.Going.{once-stopped, once-given}
use Rattle.model_steps.proofs.body.fixture_line.Goals as goal

pub returns-in_default : goal.returns-in_default
returns-in_default c = rw (sym c.fixture_line.ensures ∙ c.in_default.is) (c.stopped_at.ensures ∙ ap (λ (f : LineFault). stop_at f c.args.k) c.name_fault.ensures)

pub returns-in_err-given : goal.returns-in_err-given
returns-in_err-given c =
    let a = c.args in
    let at = sym c.fixture_line.ensures ∙ c.in-Some.is in
    let e = c.number_fault.ensures in
    rw at (once-stopped _ _ _ _ (λ g. InModel (with_model_list a.m (WaveformRows a.line g a.r))) e c.once.ensures _ c.from_residual.ensures.1 c.in_err-given.was)

pub returns : goal.returns
returns c =
    let a = c.args in
    let at = sym c.fixture_line.ensures ∙ c.in-Some.is in
    let e = c.number_fault.ensures in
    rw at
    (c.quiet.ensures
    ∙ ap (λ (m : _). quietly (InModel m)) c.with_list.ensures
    ∙ once-given _ _ _ _ (λ g. InModel (with_model_list a.m (WaveformRows a.line g a.r))) e c.once.ensures c.in_ok-given.was)
