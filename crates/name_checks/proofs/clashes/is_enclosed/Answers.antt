-- By the number.
use mathlib.Core.Path.{refl}
use borrow.Author.Tests.{eq-eqb, ne_eqb}
use Rattle.name_checks.specs.Lookup.{enclosed}
use Rattle.name_checks.proofs.clashes.is_enclosed.Goals as goal

pub returns-then-k-eq-OF_PIN : goal.returns-then-k-eq-OF_PIN
unfolding enclosed
returns-then-k-eq-OF_PIN c = rw (eq-eqb c.args.k 1 c.if-k-eq-OF_PIN.true) refl

pub returns : goal.returns
unfolding enclosed
returns c = rw (ne_eqb c.args.k 1 c.if-k-eq-OF_PIN.false) refl
