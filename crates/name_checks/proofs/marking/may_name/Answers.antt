-- By the number of the second kind.
use mathlib.Core.Path.{refl}
use borrow.Author.Tests.{eq-eqb, ne_eqb}
use Rattle.name_checks.specs.Lookup.{reaches}
use Rattle.name_checks.proofs.marking.may_name.Goals as goal

pub returns-then-l-eq-OF_MODEL : goal.returns-then-l-eq-OF_MODEL
unfolding reaches
returns-then-l-eq-OF_MODEL c = rw (eq-eqb c.args.l 4 c.if-l-eq-OF_MODEL.true) c.is_enclosed.ensures

pub returns-then-l-eq-OF_SELECTOR : goal.returns-then-l-eq-OF_SELECTOR
unfolding reaches
returns-then-l-eq-OF_SELECTOR c = rw (ne_eqb c.args.l 4 c.if-l-eq-OF_MODEL.false) rw (eq-eqb c.args.l 2 c.if-l-eq-OF_SELECTOR.true) refl

pub returns : goal.returns
unfolding reaches
returns c = rw (ne_eqb c.args.l 4 c.if-l-eq-OF_MODEL.false) rw (ne_eqb c.args.l 2 c.if-l-eq-OF_SELECTOR.false) refl
