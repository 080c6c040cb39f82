-- By the test.
use mathlib.Core.Path.{sym}
use borrow.Author.Tests.{le-leb, lt-leb}
use Rattle.laws.proofs.Tests.{cond_yes, cond_no}
use Rattle.from_notes.proofs.places.mark_of.Goals as goal

pub returns-then-word-ge256 : goal.returns-then-word-ge256
returns-then-word-ge256 c = sym (cond_yes _ _ (le-leb 256 c.args.word c.if-word-ge256.true))

pub returns : goal.returns
returns c = sym (cond_no _ _ (lt-leb 256 c.args.word c.if-word-ge256.false))
