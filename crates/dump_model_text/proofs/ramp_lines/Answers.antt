-- A ramp that is given, one text behind another.
use Rattle.dump_model_text.specs.Models.{ramp_dump}
use Rattle.text_buffer.proofs.Laws.{put_append}
use Rattle.dump_model_text.proofs.ramp_lines.Goals as goal

pub returns-then-ramp : goal.returns-then-ramp
unfolding ramp_dump
returns-then-ramp c = rw c.if-ramp.true (simp put_append cc)
