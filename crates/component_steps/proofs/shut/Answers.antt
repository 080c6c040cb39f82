-- The list is whole, or not.
use mathlib.Core.Bool.{not}
use mathlib.Core.Path.{ap, ◌∙◌}
use Rattle.rules.proofs.Going.{refused, passed}
use Rattle.component_steps.proofs.shut.Goals as goal

pub returns-then-not-whole : goal.returns-then-not-whole
returns-then-not-whole c = c.stopped.ensures ∙ refused 9 _ _ (ap not c.if-not-whole.true)

pub returns : goal.returns
returns c = passed 9 _ _ (ap not c.if-not-whole.false)
