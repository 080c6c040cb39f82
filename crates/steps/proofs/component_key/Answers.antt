-- The stage is a component's, or another: `not-component`.
use Rattle.std.specs.Prelude.{Option}
use borrow.Enum.Refused.{opened}
use mathlib.Core.Path.{sym, ap, ◌∙◌}
use Rattle.rules.specs.Component.{component_part}
use Rattle.rules.specs.Steps.{within}
use Rattle.rules.specs.declared.ComponentState.{ComponentState}
use Rattle.steps.proofs.Laws.{not-component}
use Rattle.steps.proofs.component_key.Goals as goal

pub returns-in_default : goal.returns-in_default
returns-in_default c =
    let a = c.args in
    c.stopped.ensures
    ∙ sym (ap (λ (o : Option ComponentState). within a.k o (λ x. component_part x a.k a.w.now a.p)) (not-component a.s (opened c.in_default.in_default-own.keys2)))

pub component_part-requires : goal.component_part-requires
component_part-requires c = c.requires

pub returns : goal.returns
returns c = rw c.in-InComponent.is c.component_part.ensures
