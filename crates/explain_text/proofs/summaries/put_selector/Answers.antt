-- By whether the model has the name that the pin gives.
use Rattle.explain_text.specs.Summaries.{selector_text}
use mathlib.Core.Path.{sym, ◌∙◌}
use Rattle.text_buffer.proofs.Laws.{put_append}
use Rattle.explain_text.proofs.summaries.put_selector.Goals as goal

pub returns-then-not-same_name : goal.returns-then-not-same_name
unfolding selector_text
returns-then-not-same_name c = rw (sym c.same_name.ensures ∙ c.if-not-same_name.true) (simp put_append cc)
