-- By the two words, and behind the first text from there on.
use mathlib.Core.Path.{sym, ap, ◌∙◌}
use lib.ListN.{drop}
use Rattle.from_notes.proofs.places.section_noted.Goals as goal

pub returns : goal.returns
returns c =
    rw (sym c.section_word-place.ensures.value, sym c.section_word-at.ensures.value)
    (record { placed = c.behind_text.ensures.placed; texts = c.behind_text.ensures.texts ∙ ap (drop 1) c.cursor_at-c.ensures.texts })
