-- By whether the pin needs a model.
use mathlib.Core.Path.{refl, sym, ap, ◌∙◌}
use Rattle.records.specs.Texts.{Name}
use Rattle.questions.specs.Named.{name_bytes}
use Rattle.questions.specs.Searched.{model_named}
use Rattle.questions.specs.Chosen.{model_for}
use Rattle.questions.proofs.choices.model_for.Goals as goal

pub returns-then-needs_no_model : goal.returns-then-needs_no_model
unfolding model_for
returns-then-needs_no_model c = rw (sym c.needs_no_model.ensures, c.if-needs_no_model.true) refl

pub returns : goal.returns
unfolding model_for
returns c = rw (sym c.needs_no_model.ensures, c.if-needs_no_model.false) (c.model_of.ensures ∙ ap (λ (n : Name). model_named c.args.models.now (name_bytes n)) c.name_for.ensures)
