-- By how it is shown; what the two functions on a byte promise.
use Rattle.refusal_text.proofs.shown.shown_as.Goals as goal

pub returns-in-Plainly : goal.returns-in-Plainly
returns-in-Plainly c = rw c.in-Plainly.is c.visible_byte.ensures

pub returns-in-AsBlank : goal.returns-in-AsBlank
returns-in-AsBlank c = rw c.in-AsBlank.is c.blank_byte.ensures
