-- The bytes so far are put as they are shown, one more each turn.
use Rattle.refusal_text.proofs.Laws.{put_mapped}
use Rattle.refusal_text.specs.Shown.{shown_as}
use Rattle.text_buffer.specs.Pages.{sheet}
use Rattle.text_buffer.specs.Put.{put_one}
use mathlib.Core.Path.{ap, ◌∙◌}
use Rattle.refusal_text.proofs.shown.put_shown.Goals as goal

pub loop-byte-preserved : goal.loop-byte-preserved
loop-byte-preserved c =
    let l = c.loop-byte in
    let a = c.args in
    c.put_byte.ensures ∙ ap (put_one c.shown_as.result) l.invariant ∙ put_mapped (shown_as a.how) a.text.now l.byte-index c.shown_as.result (sheet a.page.now) c.loop-byte-test.true c.shown_as.ensures
