-- The tests in the definition's order.
use mathlib.Core.Path.{sym, ap, ◌∙◌}
use mathlib.Core.Bool.{not}
use Rattle.line_rules.specs.Fields.{is_model_name}
use Rattle.named_lines.proofs.forms.model_name.Goals as goal

pub returns-then-not-sized : goal.returns-then-not-sized
unfolding is_model_name
returns-then-not-sized c = rw (sym c.sized.ensures ∙ c.if-not-sized.true)

pub returns-then-bracketed : goal.returns-then-bracketed
unfolding is_model_name
returns-then-bracketed c = rw (sym c.sized.ensures ∙ c.if-not-sized.false, sym c.bracketed.ensures ∙ c.if-bracketed.true)

pub returns-then-needs_no_model : goal.returns-then-needs_no_model
unfolding is_model_name
returns-then-needs_no_model c = rw (sym c.sized.ensures ∙ c.if-not-sized.false, sym c.bracketed.ensures ∙ c.if-bracketed.false, sym c.needs_no_model.ensures ∙ c.if-needs_no_model.true)

pub returns : goal.returns
unfolding is_model_name
returns c = rw (sym c.sized.ensures ∙ c.if-not-sized.false, sym c.bracketed.ensures ∙ c.if-bracketed.false, sym c.needs_no_model.ensures ∙ c.if-needs_no_model.false) (ap not c.is_no_model.ensures)
