-- By whether a column is told; the text lies where it was found.
use mathlib.Core.Path.{◌∙◌}
use Rattle.text_buffer.specs.Pages.{sheet}
use Rattle.text_buffer.proofs.Laws.{put-text}
use Rattle.refusal_text.proofs.HintLaws.{untold-hint, told-hint}
use Rattle.refusal_text.proofs.hints.put_hint.Goals as goal

pub returns-then-fault-eq0 : goal.returns-then-fault-eq0
returns-then-fault-eq0 c = c.put_hint.ensures ∙ put-text (sheet c.args.page.now) (untold-hint c.args.src.now c.args.fault c.args.surplus c.if-fault-eq0.true)

pub slice_bounds-put_hint_in-count : goal.slice_bounds-put_hint_in-count
slice_bounds-put_hint_in-count c = c.find_text-text.ensures.starts

pub slice_bounds-put_hint_in-start : goal.slice_bounds-put_hint_in-start
slice_bounds-put_hint_in-start c = c.find_text-text.ensures.starts

pub slice_bounds-put_hint_in-end : goal.slice_bounds-put_hint_in-end
slice_bounds-put_hint_in-end c = c.find_text-text.ensures.ends

pub returns-else-fault-eq0 : goal.returns-else-fault-eq0
returns-else-fault-eq0 c = c.put_hint_in.ensures ∙ put-text (sheet c.args.page.now) (told-hint c.args.src.now c.args.fault c.args.surplus _ c.find_text-text.ensures.is c.if-fault-eq0.false)
