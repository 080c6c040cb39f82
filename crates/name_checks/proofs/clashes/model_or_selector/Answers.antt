-- By the number.
use mathlib.Core.Path.{refl}
use borrow.Author.Tests.{eq-eqb, ne_eqb}
use Rattle.name_checks.specs.Lookup.{model_or_selector}
use Rattle.name_checks.proofs.clashes.model_or_selector.Goals as goal

pub returns-then-k-eq-OF_MODEL : goal.returns-then-k-eq-OF_MODEL
unfolding model_or_selector
returns-then-k-eq-OF_MODEL c = rw (eq-eqb c.args.k 4 c.if-k-eq-OF_MODEL.true) refl

pub returns : goal.returns
unfolding model_or_selector
returns c = rw (ne_eqb c.args.k 4 c.if-k-eq-OF_MODEL.false) refl
