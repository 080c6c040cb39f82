-- By the two words.
use mathlib.Core.Path.{refl}
use Rattle.from_notes.proofs.places.name_noted.Goals as goal

pub returns : goal.returns
returns c = rw (c.part_of.ensures, c.section_word-name.ensures.value, c.section_word-at.ensures.value) refl
