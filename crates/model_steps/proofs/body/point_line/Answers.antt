-- By the row's step, with `row-line`.
use Rattle.std.specs.Prelude.{Ok}
use mathlib.Core.Path.{ap, ◌∙◌}
use Rattle.laws.proofs.Handed.{handed_on}
use Rattle.records.specs.Flaws.{told_in}
use Rattle.line_rules.specs.Fields.{row_of}
use Rattle.rules.specs.declared.ModelList.TheVariants.{WaveformRows}
use Rattle.rules.specs.declared.Stage.TheVariants.{InModel}
use Rattle.rules.specs.declared.Event.TheVariants.{TableRow}
use Rattle.model_steps.proofs.Laws.{row-checked}
use Rattle.model_steps.proofs.body.point_line.Goals as goal

pub returns-in_err-rows : goal.returns-in_err-rows
returns-in_err-rows c =
    let a = c.args in
    handed_on _ c.from_residual.ensures.1 ∙ row-checked (WaveformRows a.line a.given) a.m a.r a.k (told_in a.w.now (row_of a.w.now)) c.row_step.ensures c.at_line.ensures c.in_err-rows.was

pub returns : goal.returns
returns c =
    let a = c.args in
    ap (λ (m : _). Ok (InModel m, TableRow)) c.with_list.ensures
    ∙ row-checked (WaveformRows a.line a.given) a.m a.r a.k (told_in a.w.now (row_of a.w.now)) c.row_step.ensures c.at_line.ensures c.in_ok-rows.was
