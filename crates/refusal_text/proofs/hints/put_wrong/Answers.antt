-- One text behind another.
use Rattle.refusal_text.specs.Hints.{wrong_text}
use Rattle.text_buffer.proofs.Laws.{put_append}
use Rattle.refusal_text.proofs.hints.put_wrong.Goals as goal

pub returns : goal.returns
unfolding wrong_text
returns c = rw (put_append, ← c.put_quoted.ensures) c.put_bytes.ensures
