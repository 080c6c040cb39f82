-- `decimal::cell_in`: the two branches of `cell_in`.
use mathlib.Core.Path.{sym, ap, ◌∙◌}
use borrow.Author.Tests.{eq-eqb, ne_eqb}
use Rattle.laws.proofs.Tests.{cond_yes, cond_no}
use Rattle.decimal.specs.Decimal.{missing_word}
use Rattle.decimal.specs.Answers.{cell_in}
use Rattle.decimal.specs.declared.Cell.TheVariants.{Number}
use Rattle.decimal.proofs.cell_in.Goals as goal

pub returns-then-w-eq-MISSING : goal.returns-then-w-eq-MISSING
unfolding cell_in
returns-then-w-eq-MISSING c = sym (cond_yes _ _ (eq-eqb _ missing_word c.if-w-eq-MISSING.true))

pub returns : goal.returns
unfolding cell_in
returns c = ap Number c.decimal_in.ensures ∙ sym (cond_no _ _ (ne_eqb _ missing_word c.if-w-eq-MISSING.false))
