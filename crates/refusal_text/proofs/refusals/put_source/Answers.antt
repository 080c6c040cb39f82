-- The line of the number, or nothing for 0.
use Rattle.refusal_text.proofs.Laws.{line-none, line-text}
use Rattle.refusal_text.specs.Shown.{first_text}
use Rattle.text_buffer.proofs.Laws.{put-text}
use Rattle.text_buffer.specs.Pages.{sheet}
use mathlib.Core.Path.{◌∙◌}
use native.Mathlib.Omega.{arith}
use Rattle.refusal_text.proofs.refusals.put_source.Goals as goal

pub returns-then-fault-ne0 : goal.returns-then-fault-ne0
returns-then-fault-ne0 c = c.put_first_line.ensures ∙ put-text (sheet c.args.page.now) (line-text (first_text c.args.fault.column) c.args.src.now c.args.fault.line c.skip_lines-start.result (omega (arith, c.if-fault-ne0.true)) c.skip_lines-start.ensures.value)

pub returns-else-fault-ne0 : goal.returns-else-fault-ne0
returns-else-fault-ne0 c = put-text (sheet c.args.page.now) (line-none (first_text c.args.fault.column) c.args.src.now c.args.fault.line c.if-fault-ne0.false)
