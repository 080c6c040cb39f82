-- Nothing behind the place but blanks, or a word: `pin-cells-none`, `pin-cells-some`.
use mathlib.Core.Path.{◌∙◌}
use Rattle.line_cells.proofs.Laws.{pin-cells-none, pin-cells-some}
use Rattle.line_cells.proofs.pin_cells.Goals as goal

pub returns-then-w-skip_blanks : goal.returns-then-w-skip_blanks
returns-then-w-skip_blanks c = rw c.no_cells.ensures (pin-cells-none c.args.w.now _ _ c.skip_blanks.ensures.value c.if-w-skip_blanks.true)

pub returns : goal.returns
returns c = c.any_cells.ensures ∙ pin-cells-some c.args.w.now _ _ c.skip_blanks.ensures.value c.if-w-skip_blanks.false
