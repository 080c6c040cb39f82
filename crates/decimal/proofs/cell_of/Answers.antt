-- `decimal::cell_of`: missing, or a cell that is given.
use mathlib.Core.Path.{sym, ◌∙◌}
use Rattle.laws.proofs.Tests.{cond_yes, cond_no}
use Rattle.decimal.specs.Decimal.{cell_of}
use Rattle.decimal.proofs.cell_of.Goals as goal

pub returns-then-missing : goal.returns-then-missing
unfolding cell_of
returns-then-missing c = (sym (cond_yes _ _ (sym c.missing.ensures ∙ c.if-missing.true)))

pub returns : goal.returns
unfolding cell_of
returns c =
    c.given_cell.ensures ∙ (sym (cond_no _ _ (sym c.missing.ensures ∙ c.if-missing.false)))
