-- By the line's first word.
use mathlib.Core.Path.{sym, ◌∙◌}
use Rattle.refusal_text.proofs.HintLaws.{slopes-rise, slopes-fall}
use Rattle.refusal_text.proofs.hints.has_slopes.Goals as goal

pub returns-then-same : goal.returns-then-same
returns-then-same c = c.if-same.true ∙ slopes-rise c.args.w.now c.word_at-first.result c.word_at-first.ensures (sym c.same.ensures ∙ c.if-same.true)

pub returns-else-same : goal.returns-else-same
returns-else-same c = c.same-else-same.ensures ∙ slopes-fall c.args.w.now c.word_at-first.result c.word_at-first.ensures (sym c.same.ensures ∙ c.if-same.false)
