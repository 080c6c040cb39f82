-- By the list that is open.
use mathlib.Core.Path.{sym, ap, ◌∙◌}
use mathlib.Core.Bool.{not}
use Rattle.rules.specs.Model.{model_shut}
use Rattle.rules.proofs.Going.{refused, passed}
use Rattle.model_steps.proofs.Laws.{ramp-given, fixture-given}
use Rattle.model_steps.proofs.parts.model_shut.Goals as goal

pub returns-then-not-both_given : goal.returns-then-not-both_given
returns-then-not-both_given c =
    c.stopped.ensures
    ∙ refused 9 _ _ (ap not (sym (c.both_given.ensures ∙ ramp-given _) ∙ c.if-not-both_given.true))
    ∙ sym (ap (model_shut c.args.m) c.in-RampLines.is)

pub returns-then-not-both_given-2 : goal.returns-then-not-both_given-2
returns-then-not-both_given-2 c =
    c.stopped-then-not-both_given-2.ensures
    ∙ refused 9 _ _ (ap not (sym (c.both_given-in-WaveformRows.ensures ∙ fixture-given _) ∙ c.if-not-both_given-2.true))
    ∙ sym (ap (model_shut c.args.m) c.in-WaveformRows.is)

pub returns-else-not-both_given : goal.returns-else-not-both_given
returns-else-not-both_given c =
    c.closed-in-RampLines.ensures
    ∙ passed 9 _ _ (ap not (sym (c.both_given.ensures ∙ ramp-given _) ∙ c.if-not-both_given.false))
    ∙ sym (ap (model_shut c.args.m) c.in-RampLines.is)

pub returns-else-not-both_given-2 : goal.returns-else-not-both_given-2
returns-else-not-both_given-2 c =
    c.close_table-in-WaveformRows.ensures
    ∙ passed 9 _ _ (ap not (sym (c.both_given-in-WaveformRows.ensures ∙ fixture-given _) ∙ c.if-not-both_given-2.false))
    ∙ sym (ap (model_shut c.args.m) c.in-WaveformRows.is)
