-- By the number.
use Rattle.refusal_text.proofs.HintLaws.{at-ten, at-eleven, at-twelve, at_none}
use Rattle.text_buffer.proofs.Laws.{put-text}
use Rattle.text_buffer.specs.Pages.{sheet}
use mathlib.Core.Path.{◌∙◌}
use Rattle.refusal_text.proofs.hints.put_hint_at.Goals as goal

pub returns-then-number-eq10 : goal.returns-then-number-eq10
returns-then-number-eq10 c = c.put_word_hint.ensures ∙ put-text (sheet c.args.page.now) (at-ten c.args.w.now c.args.word.now c.args.number c.args.surplus c.if-number-eq10.true)

pub returns-then-number-eq11 : goal.returns-then-number-eq11
returns-then-number-eq11 c = c.put_number_hint.ensures ∙ put-text (sheet c.args.page.now) (at-eleven c.args.w.now c.args.word.now c.args.number c.args.surplus c.if-number-eq10.false c.if-number-eq11.true)

pub returns-then-number-eq12 : goal.returns-then-number-eq12
returns-then-number-eq12 c = c.put_range_hint.ensures ∙ put-text (sheet c.args.page.now) (at-twelve c.args.w.now c.args.word.now c.args.number c.args.surplus c.if-number-eq10.false c.if-number-eq11.false c.if-number-eq12.true)

pub returns-else-number-eq12 : goal.returns-else-number-eq12
returns-else-number-eq12 c = c.put_hint.ensures ∙ put-text (sheet c.args.page.now) (at_none c.args.w.now c.args.word.now c.args.number c.args.surplus c.if-number-eq10.false c.if-number-eq11.false c.if-number-eq12.false)
