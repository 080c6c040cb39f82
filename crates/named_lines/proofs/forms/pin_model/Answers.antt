-- The tests in the definition's order.
use mathlib.Core.Path.{sym, ap, ◌∙◌}
use mathlib.Core.Bool.{not}
use Rattle.line_rules.specs.Fields.{is_pin_model}
use Rattle.named_lines.proofs.forms.pin_model.Goals as goal

pub returns-then-not-sized : goal.returns-then-not-sized
unfolding is_pin_model
returns-then-not-sized c = rw (sym c.sized.ensures ∙ c.if-not-sized.true)

pub returns-then-bracketed : goal.returns-then-bracketed
unfolding is_pin_model
returns-then-bracketed c = rw (sym c.sized.ensures ∙ c.if-not-sized.false, sym c.bracketed.ensures ∙ c.if-bracketed.true)

pub returns : goal.returns
unfolding is_pin_model
returns c = rw (sym c.sized.ensures ∙ c.if-not-sized.false, sym c.bracketed.ensures ∙ c.if-bracketed.false) (ap not c.is_no_model.ensures)
