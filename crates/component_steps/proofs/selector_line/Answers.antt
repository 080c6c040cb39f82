-- The first word is a model's name, or not: `flawed`, `flawless`.
use Rattle.rules.specs.Selector.{selector_line}
use Rattle.rules.proofs.Going.{flawed, flawless}
use Rattle.component_steps.proofs.selector_line.Goals as goal

pub returns-in_err-at_line : goal.returns-in_err-at_line
unfolding selector_line
returns-in_err-at_line c = flawed _ _ _ c.word_fault.ensures c.at_line.ensures _ c.from_residual.ensures.1 c.in_err-at_line.was

pub returns : goal.returns
unfolding selector_line
returns c = flawless _ _ _ c.word_fault.ensures c.at_line.ensures c.in_ok-at_line.was
