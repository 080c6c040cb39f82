-- The part of the line, or all of it.
use Rattle.refusal_text.specs.Shown.{blank_for}
use Rattle.text_buffer.proofs.Laws.{put-text}
use Rattle.text_buffer.specs.Pages.{sheet}
use lib.Seq.{take_all, length-take-le}
use mathlib.Core.List.{map}
use mathlib.Core.Path.{sym, ap, ◌∙◌}
use native.Mathlib.Nat.{le_of_lt}
use Rattle.refusal_text.proofs.shown.put_blanks.Goals as goal

pub slice_bounds-put_shown-end : goal.slice_bounds-put_shown-end
slice_bounds-put_shown-end c = sym (length-take-le c.args.count c.args.line.now (le_of_lt c.if-count-line.true))

pub returns-then-count-line : goal.returns-then-count-line
returns-then-count-line c = c.put_shown.ensures

pub returns-else-count-line : goal.returns-else-count-line
returns-else-count-line c = c.put_shown-else-count-line.ensures ∙ put-text (sheet c.args.page.now) (ap (map blank_for) (sym (take_all c.args.count c.args.line.now c.if-count-line.false)))
