-- The line that begins there, or nothing.
use Rattle.refusal_text.proofs.Laws.{line-within, first-none, first-is}
use Rattle.text_buffer.proofs.Laws.{put-text}
use Rattle.text_buffer.specs.Pages.{sheet}
use mathlib.Core.Path.{◌∙◌}
use Rattle.refusal_text.proofs.shown.put_first_line.Goals as goal

pub slice_bounds-put_marked-count : goal.slice_bounds-put_marked-count
slice_bounds-put_marked-count c = (line-within c.args.src.now c.args.start c.line_at-line.result c.if-start-src.true c.line_at-line.ensures).0

pub slice_bounds-put_marked-start : goal.slice_bounds-put_marked-start
slice_bounds-put_marked-start c = (line-within c.args.src.now c.args.start c.line_at-line.result c.if-start-src.true c.line_at-line.ensures).0

pub slice_bounds-put_marked-end : goal.slice_bounds-put_marked-end
slice_bounds-put_marked-end c = (line-within c.args.src.now c.args.start c.line_at-line.result c.if-start-src.true c.line_at-line.ensures).1

pub returns-then-start-src : goal.returns-then-start-src
returns-then-start-src c = c.put_marked.ensures ∙ put-text (sheet c.args.page.now) (first-is c.args.column c.args.src.now c.args.start c.line_at-line.result c.if-start-src.true c.line_at-line.ensures)

pub returns-else-start-src : goal.returns-else-start-src
returns-else-start-src c = put-text (sheet c.args.page.now) (first-none c.args.column c.args.src.now c.args.start c.if-start-src.false)
