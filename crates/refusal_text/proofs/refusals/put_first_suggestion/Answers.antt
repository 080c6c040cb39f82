-- The line that begins there, or nothing.
use Rattle.refusal_text.proofs.Laws.{line-within, suggestion-none, suggestion-is}
use Rattle.text_buffer.proofs.Laws.{put-text}
use Rattle.text_buffer.specs.Pages.{sheet}
use mathlib.Core.Path.{◌∙◌}
use Rattle.refusal_text.proofs.refusals.put_first_suggestion.Goals as goal

pub slice_bounds-put_suggestion-count : goal.slice_bounds-put_suggestion-count
slice_bounds-put_suggestion-count c = (line-within c.args.src.now c.args.start c.line_at-line.result c.if-start-src.true c.line_at-line.ensures).0

pub slice_bounds-put_suggestion-start : goal.slice_bounds-put_suggestion-start
slice_bounds-put_suggestion-start c = (line-within c.args.src.now c.args.start c.line_at-line.result c.if-start-src.true c.line_at-line.ensures).0

pub slice_bounds-put_suggestion-end : goal.slice_bounds-put_suggestion-end
slice_bounds-put_suggestion-end c = (line-within c.args.src.now c.args.start c.line_at-line.result c.if-start-src.true c.line_at-line.ensures).1

pub returns-then-start-src : goal.returns-then-start-src
returns-then-start-src c = c.put_suggestion.ensures ∙ put-text (sheet c.args.page.now) (suggestion-is c.args.src.now c.args.start c.line_at-line.result c.if-start-src.true c.line_at-line.ensures)

pub returns-else-start-src : goal.returns-else-start-src
returns-else-start-src c = put-text (sheet c.args.page.now) (suggestion-none c.args.src.now c.args.start c.if-start-src.false)
