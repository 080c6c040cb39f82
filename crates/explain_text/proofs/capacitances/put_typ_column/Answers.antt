-- The text, and what fills the column behind it: `put-filled`.
use Prim.Native.Nat.{ℕ, ◌-◌}
use Rattle.explain_text.specs.Capacitances.{picofarads}
use Rattle.explain_text.specs.Summaries.{gap_text, column}
use Rattle.text_buffer.proofs.Laws.{put-text, put-filled}
use Rattle.text_buffer.specs.Pages.{sheet}
use mathlib.Core.Path.{ap, ◌∙◌}
use Rattle.explain_text.proofs.capacitances.put_typ_column.Goals as goal

pub returns : goal.returns
unfolding column
returns c =
    let p = c.args.page.now in
    let t = c.put_typ.new.page in
    let start = put-text (sheet t) (ap (λ (n : ℕ). gap_text c.args.width (t.at - n)) c.len-start.ensures) in
    put-filled (gap_text c.args.width) (picofarads c.args.cells.typ) (sheet p) (sheet t) (sheet c.put_gap.new.page) p.within c.put_typ.ensures (c.put_gap.ensures ∙ start)
