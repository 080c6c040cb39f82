-- One text behind another.
use Rattle.dump_model_text.specs.Models.{fixture_lines}
use Rattle.text_buffer.proofs.Laws.{put_append}
use Rattle.dump_model_text.proofs.fixture_lines.Goals as goal

pub returns : goal.returns
unfolding fixture_lines
returns c = simp put_append cc
