-- There was a row, or not.
use mathlib.Core.Path.{◌∙◌}
use Rattle.rules.specs.Selector.{selector_shut}
use Rattle.rules.proofs.Going.{refused, passed}
use Rattle.component_steps.proofs.selector_shut.Goals as goal

pub returns-then-not-s : goal.returns-then-not-s
unfolding selector_shut
returns-then-not-s c = c.stopped.ensures ∙ refused 9 _ _ c.if-not-s.true

pub returns : goal.returns
unfolding selector_shut
returns c = passed 9 _ _ c.if-not-s.false
