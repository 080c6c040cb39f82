-- The tests in the definition's order.
use mathlib.Core.Path.{sym, ap, ◌∙◌}
use mathlib.Core.Bool.{not}
use Rattle.line_rules.specs.Fields.{is_pin_name}
use Rattle.named_lines.proofs.forms.pin_name.Goals as goal

pub returns-then-not-sized : goal.returns-then-not-sized
unfolding is_pin_name
returns-then-not-sized c = rw (sym c.sized.ensures ∙ c.if-not-sized.true)

pub returns : goal.returns
unfolding is_pin_name
returns c = rw (sym c.sized.ensures ∙ c.if-not-sized.false) (ap not c.bracketed.ensures)
