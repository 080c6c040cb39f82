-- By cases on the section.
use mathlib.Core.Logic.{⊎_elim}
use Rattle.steps.proofs.section_fault.Goals as goal

pub returns-in-Selector : goal.returns-in-Selector
returns-in-Selector c = ⊎_elim (λ e. rw e c.argument_fault.ensures) (λ e. rw e c.argument_fault.ensures) c.in-Selector.is
