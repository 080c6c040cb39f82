-- One record, over and over.
use mathlib.Core.Path.{ap}
use lib.ListN.{replicate}
use Rattle.records.specs.declared.Component.{Component}
use Rattle.lending.specs.Lent.{one_component}
use Rattle.lending.proofs.one_component.Goals as goal

pub returns : goal.returns
unfolding one_component
returns c = ap (λ (x : Component). replicate 1 x) c.blank_component-component.ensures
