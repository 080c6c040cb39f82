-- By the two words.
use mathlib.Core.Path.{refl}
use Rattle.from_notes.proofs.places.row_noted.Goals as goal

pub returns : goal.returns
returns c = rw (c.part_of.ensures, c.row_word-length.ensures.value, c.row_word-at.ensures.value) refl
