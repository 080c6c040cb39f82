-- By the verdict, and by the fault's number.
use mathlib.Core.Path.{refl}
use borrow.Author.Tests.{eq-eqb, ne_eqb}
use Rattle.surplus_word.proofs.is_ten.Goals as goal

pub returns-then-f-ne10 : goal.returns-then-f-ne10
returns-then-f-ne10 c = rw c.in-Err.is rw (ne_eqb c.in-Err.f.number 10 c.if-f-ne10.true) refl

pub returns-in-Ok : goal.returns-in-Ok
returns-in-Ok c = rw c.in-Ok.is

pub returns-else-f-ne10 : goal.returns-else-f-ne10
returns-else-f-ne10 c = rw c.in-Err.is rw (eq-eqb c.in-Err.f.number 10 c.if-f-ne10.false) refl
