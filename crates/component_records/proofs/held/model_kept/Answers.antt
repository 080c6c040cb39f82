-- The words for none in the definition's order.
use mathlib.Core.Path.{sym, ap, ◌∙◌}
use Rattle.records.specs.Stored.{name_laid}
use Rattle.component_records.proofs.Kept.{kept-power, kept-ground, kept-none, kept-other}
use Rattle.component_records.proofs.held.model_kept.Goals as goal

pub returns-then-same_capitals : goal.returns-then-same_capitals
returns-then-same_capitals c = c.name_of.ensures ∙ sym (ap name_laid (kept-power c.args.w.now (sym c.same_capitals.ensures ∙ c.if-same_capitals.true)))

pub returns-then-same_capitals-2 : goal.returns-then-same_capitals-2
returns-then-same_capitals-2 c = c.name_of-then-same_capitals-2.ensures ∙ sym (ap name_laid (kept-ground c.args.w.now (sym c.same_capitals.ensures ∙ c.if-same_capitals.false) (sym c.same_capitals-2.ensures ∙ c.if-same_capitals-2.true)))

pub returns-then-same_capitals-3 : goal.returns-then-same_capitals-3
returns-then-same_capitals-3 c = c.name_of-then-same_capitals-3.ensures ∙ sym (ap name_laid (kept-none c.args.w.now (sym c.same_capitals.ensures ∙ c.if-same_capitals.false) (sym c.same_capitals-2.ensures ∙ c.if-same_capitals-2.false) (sym c.same_capitals-3.ensures ∙ c.if-same_capitals-3.true)))

pub returns : goal.returns
returns c = c.name_of-2.ensures ∙ sym (ap name_laid (kept-other c.args.w.now (sym c.same_capitals.ensures ∙ c.if-same_capitals.false) (sym c.same_capitals-2.ensures ∙ c.if-same_capitals-2.false) (sym c.same_capitals-3.ensures ∙ c.if-same_capitals-3.false)))
