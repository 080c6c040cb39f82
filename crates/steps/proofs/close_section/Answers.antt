-- By cases on the stage: what it lacks is told, or it closes: `flawed`, `flawless`.
use mathlib.Core.Path.{◌∙◌}
use Rattle.records.specs.Flaws.{bare}
use Rattle.rules.specs.Going.{unless, passes, quietly}
use Rattle.rules.specs.Header.{header_done}
use Rattle.rules.specs.Component.{component_done}
use Rattle.rules.specs.Model.{model_done}
use Rattle.rules.specs.declared.Stage.TheVariants.{InHeader, InComponent, InModel}
use Rattle.rules.proofs.Going.{flawed, flawless}
use Rattle.steps.proofs.close_section.Goals as goal

pub returns-in_err-at_line-in-InHeader : goal.returns-in_err-at_line-in-InHeader
unfolding unless passes
returns-in_err-at_line-in-InHeader c =
    rw c.in-InHeader.is (flawed (bare (header_done c.in-InHeader.h)) _ (quietly (InHeader c.in-InHeader.h)) c.header_done.ensures c.at_line.ensures _ c.from_residual.ensures.1 c.in_err-at_line-in-InHeader.was)

pub returns-in_ok-at_line-in-InHeader : goal.returns-in_ok-at_line-in-InHeader
unfolding unless passes
returns-in_ok-at_line-in-InHeader c =
    c.quiet.ensures
    ∙ rw c.in-InHeader.is (flawless (bare (header_done c.in-InHeader.h)) _ (quietly (InHeader c.in-InHeader.h)) c.header_done.ensures c.at_line.ensures c.in_ok-at_line-in-InHeader.was)

pub returns-in_err-at_line-in-InComponent : goal.returns-in_err-at_line-in-InComponent
unfolding unless passes
returns-in_err-at_line-in-InComponent c =
    rw c.in-InComponent.is (flawed (bare (component_done c.in-InComponent.c)) _ (quietly (InComponent c.in-InComponent.c)) c.component_done.ensures c.at_line-in-InComponent.ensures _ c.from_residual-in_err-at_line-in-InComponent.ensures.1 c.in_err-at_line-in-InComponent.was)

pub returns-in_ok-at_line-in-InComponent : goal.returns-in_ok-at_line-in-InComponent
unfolding unless passes
returns-in_ok-at_line-in-InComponent c =
    c.quiet-in-InComponent.ensures
    ∙ rw c.in-InComponent.is (flawless (bare (component_done c.in-InComponent.c)) _ (quietly (InComponent c.in-InComponent.c)) c.component_done.ensures c.at_line-in-InComponent.ensures c.in_ok-at_line-in-InComponent.was)

pub returns-in_err-at_line-in-InModel : goal.returns-in_err-at_line-in-InModel
unfolding unless passes
returns-in_err-at_line-in-InModel c =
    rw c.in-InModel.is (flawed (bare (model_done c.in-InModel.m)) _ (quietly (InModel c.in-InModel.m)) c.model_done.ensures c.at_line-in-InModel.ensures _ c.from_residual-in_err-at_line-in-InModel.ensures.1 c.in_err-at_line-in-InModel.was)

pub returns-in_ok-at_line-in-InModel : goal.returns-in_ok-at_line-in-InModel
unfolding unless passes
returns-in_ok-at_line-in-InModel c =
    c.quiet-in-InModel.ensures
    ∙ rw c.in-InModel.is (flawless (bare (model_done c.in-InModel.m)) _ (quietly (InModel c.in-InModel.m)) c.model_done.ensures c.at_line-in-InModel.ensures c.in_ok-at_line-in-InModel.was)
