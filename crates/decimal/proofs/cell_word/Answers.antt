-- `decimal::cell_word`: missing, or a number's word.
use mathlib.Core.Path.{sym, ap, ◌∙◌}
use Rattle.laws.proofs.Tests.{cond_yes, cond_no}
use Rattle.decimal.specs.Decimal.{cell_of}
use Rattle.decimal.specs.Answers.{cell_word}
use Rattle.decimal.proofs.Worded.{cell-worded}
use Rattle.decimal.proofs.cell_word.Goals as goal

pub returns-then-missing : goal.returns-then-missing
unfolding cell_of
returns-then-missing c = ap cell_word (sym (cond_yes _ _ (sym c.missing.ensures ∙ c.if-missing.true)))

pub returns : goal.returns
unfolding cell_of
returns c =
    c.number_word.ensures ∙ cell-worded _ ∙ ap cell_word (sym (cond_no _ _ (sym c.missing.ensures ∙ c.if-missing.false)))
