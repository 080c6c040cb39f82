-- One text behind another.
use Rattle.dump_model_text.specs.Models.{range_lines}
use Rattle.text_buffer.proofs.Laws.{put_append}
use Rattle.dump_model_text.proofs.range_lines.Goals as goal

pub returns : goal.returns
unfolding range_lines
returns c = simp put_append cc
