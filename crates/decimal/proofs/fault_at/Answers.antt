-- `decimal::fault_at`: the three branches of `fault_at`.
use mathlib.Core.Path.{sym, ◌∙◌}
use borrow.Author.Tests.{eq-eqb, ne_eqb, lt-ltb, le-ltb}
use Rattle.laws.proofs.Tests.{cond_yes, cond_no}
use Rattle.decimal.specs.Decimal.{missing_word}
use Rattle.decimal.specs.Answers.{past_numbers, fault_at}
use Rattle.decimal.proofs.fault_at.Goals as goal

pub returns-then-w-lt-PAST_NUMBERS : goal.returns-then-w-lt-PAST_NUMBERS
unfolding fault_at
returns-then-w-lt-PAST_NUMBERS c = sym (cond_yes _ _ (lt-ltb _ past_numbers c.if-w-lt-PAST_NUMBERS.true))

pub returns-then-w-eq-MISSING : goal.returns-then-w-eq-MISSING
unfolding fault_at
returns-then-w-eq-MISSING c = sym (cond_no _ _ (le-ltb _ past_numbers c.if-w-lt-PAST_NUMBERS.false) ∙ cond_yes _ _ (eq-eqb _ missing_word c.if-w-eq-MISSING.true))

pub returns : goal.returns
unfolding fault_at
returns c = sym (cond_no _ _ (le-ltb _ past_numbers c.if-w-lt-PAST_NUMBERS.false) ∙ cond_no _ _ (ne_eqb _ missing_word c.if-w-eq-MISSING.false))
