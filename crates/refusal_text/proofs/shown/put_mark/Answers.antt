-- By the column.
use Prim.Native.Nat.{ℕ, ◌-◌}
use Rattle.laws.specs.Bytes.{bytes}
use Rattle.refusal_text.proofs.Laws.{mark-none, mark-some}
use Rattle.refusal_text.specs.Shown.{blank_for}
use Rattle.text_buffer.proofs.Laws.{put-text, put_append}
use Rattle.text_buffer.specs.Pages.{sheet}
use Rattle.text_buffer.specs.Put.{put}
use lib.ListN.{take}
use mathlib.Core.List.{List, map}
use mathlib.Core.Path.{sym, ap, ◌∙◌}
use native.Mathlib.Omega.{arith}
use Rattle.refusal_text.proofs.shown.put_mark.Goals as goal

pub returns-then-column-ne0 : goal.returns-then-column-ne0
returns-then-column-ne0 c =
    let before : List ℕ = map blank_for (take (c.args.column - 1) c.args.line.now) in
    let end : List ℕ = bytes "^\n" in
    c.put_bytes-then-column-ne0.ensures ∙ ap (put end) (c.put_blanks.ensures ∙ ap (put before) c.put_bytes.ensures) ∙ sym (put_append before end _) ∙ put-text (sheet c.args.page.now) (mark-some c.args.line.now c.args.column (omega (arith, c.if-column-ne0.true)))

pub returns-else-column-ne0 : goal.returns-else-column-ne0
returns-else-column-ne0 c = put-text (sheet c.args.page.now) (mark-none c.args.line.now c.args.column c.if-column-ne0.false)
