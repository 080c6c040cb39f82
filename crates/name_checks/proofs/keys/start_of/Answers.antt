-- By the number of the kind.
use mathlib.Core.Path.{refl, sym, ◌∙◌}
use Rattle.name_checks.specs.Lookup.{start_of}
use Rattle.name_checks.proofs.keys.start_of.Goals as goal

pub returns-then-model_or_selector : goal.returns-then-model_or_selector
unfolding start_of
returns-then-model_or_selector c = rw (sym c.model_or_selector.ensures ∙ c.if-model_or_selector.true) refl

pub returns-then-is_enclosed : goal.returns-then-is_enclosed
unfolding start_of
returns-then-is_enclosed c = rw (sym c.model_or_selector.ensures ∙ c.if-model_or_selector.false) rw (sym c.is_enclosed.ensures ∙ c.if-is_enclosed.true) refl

pub returns : goal.returns
unfolding start_of
returns c = rw (sym c.model_or_selector.ensures ∙ c.if-model_or_selector.false) rw (sym c.is_enclosed.ensures ∙ c.if-is_enclosed.false) refl
