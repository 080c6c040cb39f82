-- One text behind another.
use Rattle.dump_model_text.specs.Models.{split_lines}
use Rattle.text_buffer.proofs.Laws.{put_append}
use Rattle.dump_model_text.proofs.split_lines.Goals as goal

pub returns : goal.returns
unfolding split_lines
returns c = simp put_append cc
