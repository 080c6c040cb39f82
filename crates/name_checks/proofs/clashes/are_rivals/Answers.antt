-- By whether the first is a model's or a selector's.
use mathlib.Core.Path.{sym, ◌∙◌}
use Rattle.laws.proofs.Tests.{cond_yes, cond_no}
use Rattle.name_checks.specs.Lookup.{model_or_selector, rivals}
use lib.Dec.{eqb}
use Rattle.name_checks.proofs.clashes.are_rivals.Goals as goal

pub returns-then-model_or_selector : goal.returns-then-model_or_selector
unfolding rivals
returns-then-model_or_selector c = c.model_or_selector-then-model_or_selector.ensures ∙ sym (cond_yes (model_or_selector c.args.l) (eqb c.args.k c.args.l) (sym c.model_or_selector.ensures ∙ c.if-model_or_selector.true))

pub returns : goal.returns
unfolding rivals
returns c = sym (cond_no (model_or_selector c.args.l) (eqb c.args.k c.args.l) (sym c.model_or_selector.ensures ∙ c.if-model_or_selector.false))
