-- One text behind another.
use Rattle.explain_text.specs.Summaries.{header_text}
use Rattle.text_buffer.proofs.Laws.{put_append}
use Rattle.explain_text.proofs.summaries.put_header.Goals as goal

pub returns : goal.returns
unfolding header_text
returns c = simp put_append cc
