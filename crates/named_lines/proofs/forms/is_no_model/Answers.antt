-- The two words in the definition's order.
use mathlib.Core.Path.{sym, ◌∙◌}
use Rattle.laws.proofs.Tests.{or-none}
use Rattle.laws.specs.Lists.{one_of}
use Rattle.line_rules.specs.Fields.{is_no_model}
use Rattle.named_lines.proofs.forms.is_no_model.Goals as goal

pub returns-then-same_capitals : goal.returns-then-same_capitals
unfolding is_no_model one_of
returns-then-same_capitals c = rw (sym c.same_capitals.ensures ∙ c.if-same_capitals.true)

pub returns : goal.returns
unfolding is_no_model one_of
returns c = rw (sym c.same_capitals.ensures ∙ c.if-same_capitals.false) (c.same_capitals-2.ensures ∙ sym (or-none _))
