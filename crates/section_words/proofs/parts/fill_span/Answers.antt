-- Where no table of its kind was given.
use mathlib.Core.Path.{sym, ◌∙◌}
use borrow.Author.Tests.{eq-eqb, ne_eqb}
use Rattle.laws.proofs.Tests.{cond_yes, cond_no}
use Rattle.section_words.proofs.parts.fill_span.Goals as goal

pub returns-then-model-at-eq0 : goal.returns-then-model-at-eq0
returns-then-model-at-eq0 c = c.put.ensures ∙ sym (cond_yes _ _ (eq-eqb _ _ c.if-model-at-eq0.true))

pub returns-else-model-at-eq0 : goal.returns-else-model-at-eq0
returns-else-model-at-eq0 c = sym (cond_no _ _ (ne_eqb _ _ c.if-model-at-eq0.false))
