-- By the word.
use Rattle.refusal_text.proofs.HintLaws.{missing-hint, surplus-hint, equals-hint, wrong-hint}
use Rattle.text_buffer.proofs.Laws.{put-text}
use Rattle.text_buffer.specs.Pages.{sheet}
use borrow.Author.Tests.{eqb-true, eqb-false}
use lib.ListN.{length}
use mathlib.Core.Path.{sym, ◌∙◌}
use Rattle.refusal_text.proofs.hints.put_word_hint.Goals as goal

pub returns-then-is_empty : goal.returns-then-is_empty
returns-then-is_empty c = c.put_bytes.ensures ∙ put-text (sheet c.args.page.now) (missing-hint c.args.surplus c.args.word.now (eqb-true (length c.args.word.now) 0 (sym c.is_empty.ensures ∙ c.if-is_empty.true)))

pub returns-then-surplus : goal.returns-then-surplus
returns-then-surplus c = c.put_surplus.ensures ∙ put-text (sheet c.args.page.now) (surplus-hint c.args.surplus c.args.word.now (eqb-false (length c.args.word.now) 0 (sym c.is_empty.ensures ∙ c.if-is_empty.false)) c.if-surplus.true)

pub returns-then-word-eq61 : goal.returns-then-word-eq61
returns-then-word-eq61 c = c.put_bytes-then-word-eq61.ensures ∙ put-text (sheet c.args.page.now) (equals-hint c.args.surplus c.args.word.now (eqb-false (length c.args.word.now) 0 (sym c.is_empty.ensures ∙ c.if-is_empty.false)) c.if-surplus.false c.if-word-eq61.true)

pub returns-else-word-eq61 : goal.returns-else-word-eq61
returns-else-word-eq61 c = c.put_wrong.ensures ∙ put-text (sheet c.args.page.now) (wrong-hint c.args.surplus c.args.word.now (eqb-false (length c.args.word.now) 0 (sym c.is_empty.ensures ∙ c.if-is_empty.false)) c.if-surplus.false c.if-word-eq61.false)
