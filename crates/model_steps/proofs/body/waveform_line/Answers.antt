-- A row, or a line of the fixture before the rows.
use mathlib.Core.Path.{sym, ap, ◌∙◌}
use mathlib.Core.Bool.{not}
use borrow.Author.Tests.{eq-eqb, ne_eqb}
use Rattle.laws.proofs.Tests.{cond_yes, cond_no}
use Rattle.rules.specs.Model.{waveform_line}
use Rattle.rules.proofs.Going.{refused, passed}
use Rattle.model_steps.proofs.body.waveform_line.Goals as goal

pub returns-then-not-begins_letter : goal.returns-then-not-begins_letter
unfolding waveform_line
returns-then-not-begins_letter c = c.point_line.ensures ∙ sym (cond_no _ _ (sym c.begins_letter.ensures ∙ c.if-not-begins_letter.true))

pub returns-then-r-ne0 : goal.returns-then-r-ne0
unfolding waveform_line
returns-then-r-ne0 c =
    c.stopped.ensures
    ∙ refused 7 _ _ (ap not (ne_eqb c.args.r.count 0 c.if-r-ne0.true))
    ∙ sym (cond_yes _ _ (sym c.begins_letter.ensures ∙ c.if-not-begins_letter.false))

pub returns : goal.returns
unfolding waveform_line
returns c =
    c.fixture_line.ensures
    ∙ passed 7 _ _ (ap not (eq-eqb c.args.r.count 0 c.if-r-ne0.false))
    ∙ sym (cond_yes _ _ (sym c.begins_letter.ensures ∙ c.if-not-begins_letter.false))
