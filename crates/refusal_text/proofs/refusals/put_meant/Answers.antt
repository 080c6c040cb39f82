-- By the number and the line.
use Rattle.refusal_text.proofs.Laws.{line-none, line-text, meant-other, meant-slip}
use Rattle.refusal_text.specs.Refusals.{first_suggestion}
use Rattle.text_buffer.proofs.Laws.{put-text}
use Rattle.text_buffer.specs.Pages.{sheet}
use mathlib.Core.Path.{◌∙◌}
use native.Mathlib.Omega.{arith}
use Rattle.refusal_text.proofs.refusals.put_meant.Goals.{else-fault-eq21-via-then-fault-eq21+else-fault-ne0, else-fault-eq21-via-else-fault-eq21}
use Rattle.refusal_text.proofs.refusals.put_meant.Goals as goal

pub returns-then-fault-ne0 : goal.returns-then-fault-ne0
returns-then-fault-ne0 c =
    let line = line-text first_suggestion c.args.src.now c.args.fault.line c.skip_lines-start.result (omega (arith, c.if-fault-ne0.true)) c.skip_lines-start.ensures.value in
    c.put_first_suggestion.ensures ∙ put-text (sheet c.args.page.now) (line ∙ meant-slip c.args.src.now c.args.fault c.if-fault-eq21.true)

pub returns-else-fault-eq21 : goal.returns-else-fault-eq21
returns-else-fault-eq21 c =
    let s = c.args.src.now in
    let f = c.args.fault in
    elim c.else-fault-eq21.branch [
      | else-fault-eq21-via-then-fault-eq21+else-fault-ne0 w ↦ put-text (sheet c.args.page.now) (line-none first_suggestion s f.line w.if-fault-ne0.false ∙ meant-slip s f w.if-fault-eq21.true)
      | else-fault-eq21-via-else-fault-eq21 w ↦ put-text (sheet c.args.page.now) (meant-other s f w.if-fault-eq21.false)
    ]
