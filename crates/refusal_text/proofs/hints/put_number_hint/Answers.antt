-- The tests in the definition's order.
use mathlib.Core.Path.{sym, ◌∙◌}
use Rattle.text_buffer.specs.Pages.{sheet}
use Rattle.text_buffer.proofs.Laws.{put-text}
use Rattle.refusal_text.proofs.HintLaws.{absent-hint, slope-hint, number-hint}
use Rattle.refusal_text.proofs.hints.put_number_hint.Goals as goal

pub returns-then-same_capitals : goal.returns-then-same_capitals
returns-then-same_capitals c = c.put_bytes.ensures ∙ put-text (sheet c.args.page.now) (absent-hint c.args.w.now c.args.word.now (sym c.same_capitals.ensures ∙ c.if-same_capitals.true))

pub returns-then-has_slopes : goal.returns-then-has_slopes
returns-then-has_slopes c = c.put_slope.ensures ∙ put-text (sheet c.args.page.now) (slope-hint c.args.w.now c.args.word.now (sym c.same_capitals.ensures ∙ c.if-same_capitals.false) (sym c.has_slopes.ensures ∙ c.if-has_slopes.true))

pub returns-else-has_slopes : goal.returns-else-has_slopes
returns-else-has_slopes c = c.put_no_number.ensures ∙ put-text (sheet c.args.page.now) (number-hint c.args.w.now c.args.word.now (sym c.same_capitals.ensures ∙ c.if-same_capitals.false) (sym c.has_slopes.ensures ∙ c.if-has_slopes.false))
