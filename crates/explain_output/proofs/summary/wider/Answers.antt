-- The test of the branch is the definition's.
use mathlib.Core.Path.{sym}
use borrow.Author.Tests.{lt-ltb, le-ltb}
use Rattle.laws.proofs.Tests.{cond_yes, cond_no}
use Rattle.explain_output.proofs.summary.wider.Goals as goal

pub returns-then-width-n : goal.returns-then-width-n
returns-then-width-n c = sym (cond_yes _ _ (lt-ltb _ _ c.if-width-n.true))

pub returns-else-width-n : goal.returns-else-width-n
returns-else-width-n c = sym (cond_no _ _ (le-ltb _ _ c.if-width-n.false))
