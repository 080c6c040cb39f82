-- The three words in the definition's order.
use mathlib.Core.Path.{sym, ◌∙◌}
use Rattle.laws.proofs.Tests.{or-none}
use Rattle.laws.specs.Lists.{one_of}
use Rattle.line_rules.specs.Fields.{needs_no_model}
use Rattle.named_lines.proofs.forms.needs_no_model.Goals as goal

pub returns-then-same_capitals : goal.returns-then-same_capitals
unfolding needs_no_model one_of
returns-then-same_capitals c = rw (sym c.same_capitals.ensures ∙ c.if-same_capitals.true)

pub returns-then-same_capitals-2 : goal.returns-then-same_capitals-2
unfolding needs_no_model one_of
returns-then-same_capitals-2 c = rw (sym c.same_capitals.ensures ∙ c.if-same_capitals.false, sym c.same_capitals-2.ensures ∙ c.if-same_capitals-2.true)

pub returns : goal.returns
unfolding needs_no_model one_of
returns c = rw (sym c.same_capitals.ensures ∙ c.if-same_capitals.false, sym c.same_capitals-2.ensures ∙ c.if-same_capitals-2.false) (c.same_capitals-3.ensures ∙ sym (or-none _))
