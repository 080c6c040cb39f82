-- One text behind another.
use Rattle.refusal_text.specs.Hints.{slope_text}
use Rattle.text_buffer.proofs.Laws.{put_append}
use Rattle.refusal_text.proofs.hints.put_slope.Goals as goal

pub returns : goal.returns
unfolding slope_text
returns c = simp put_append cc
