-- One text behind another.
use Rattle.refusal_text.specs.Hints.{number_text}
use Rattle.text_buffer.proofs.Laws.{put_append}
use Rattle.refusal_text.proofs.hints.put_no_number.Goals as goal

pub returns : goal.returns
unfolding number_text
returns c = simp put_append cc
