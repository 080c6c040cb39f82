-- One record, over and over.
use mathlib.Core.Path.{ap}
use lib.ListN.{replicate}
use Rattle.records.specs.declared.Choice.{Choice}
use Rattle.lending.specs.Lent.{no_choices}
use Rattle.lending.proofs.no_choices.Goals as goal

pub returns : goal.returns
unfolding no_choices
returns c = ap (λ (x : Choice). replicate 0 x) c.blank_choice-choice.ensures
