-- One text behind another.
use Rattle.refusal_text.specs.Hints.{surplus_text}
use Rattle.text_buffer.proofs.Laws.{put_append}
use Rattle.refusal_text.proofs.hints.put_surplus.Goals as goal

pub returns : goal.returns
unfolding surplus_text
returns c = rw (put_append, ← c.put_quoted.ensures) c.put_bytes.ensures
