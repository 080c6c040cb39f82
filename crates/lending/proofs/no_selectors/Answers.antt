-- One record, over and over.
use mathlib.Core.Path.{ap}
use lib.ListN.{replicate}
use Rattle.records.specs.declared.Selector.{Selector}
use Rattle.lending.specs.Lent.{no_selectors}
use Rattle.lending.proofs.no_selectors.Goals as goal

pub returns : goal.returns
unfolding no_selectors
returns c = ap (λ (x : Selector). replicate 0 x) c.blank_selector-selector.ensures
