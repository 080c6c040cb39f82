-- The line is handed out where the reader stands.
use Rattle.refusal_text.proofs.TextLaws.{line-lies}
use Rattle.surplus_word.proofs.Laws.{rest-is}
use Rattle.surplus_word.proofs.find_rest.Goals as goal

pub slice_bounds-rest_in-count : goal.slice_bounds-rest_in-count
slice_bounds-rest_in-count c = (line-lies c.args.src.now c.skip_lines-start.result c.line_at-line.result c.skip_lines-start.ensures.upper_bound c.line_at-line.ensures).starts

pub slice_bounds-rest_in-start : goal.slice_bounds-rest_in-start
slice_bounds-rest_in-start c = (line-lies c.args.src.now c.skip_lines-start.result c.line_at-line.result c.skip_lines-start.ensures.upper_bound c.line_at-line.ensures).starts

pub slice_bounds-rest_in-end : goal.slice_bounds-rest_in-end
slice_bounds-rest_in-end c = (line-lies c.args.src.now c.skip_lines-start.result c.line_at-line.result c.skip_lines-start.ensures.upper_bound c.line_at-line.ensures).ends

pub returns : goal.returns
returns c = rest-is c.args.src.now c.args.fault c.saturating_sub.result c.skip_lines-start.result c.rest_in-place.result c.line_at-line.result c.saturating_sub.ensures c.skip_lines-start.ensures.value c.line_at-line.ensures c.rest_in-place.ensures.value
