-- One record, over and over.
use mathlib.Core.Path.{ap}
use lib.ListN.{replicate}
use Rattle.records.specs.declared.Model.{Model}
use Rattle.lending.specs.Lent.{two_models}
use Rattle.lending.proofs.two_models.Goals as goal

pub returns : goal.returns
unfolding two_models
returns c = ap (λ (x : Model). replicate 2 x) c.blank_model-model.ensures
