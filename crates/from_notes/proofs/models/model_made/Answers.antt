-- By the words of its note and its name's bytes.
use Rattle.from_notes.proofs.models.model_made.Goals as goal

pub returns : goal.returns
returns c = rw (c.model_over.ensures, c.name_of-name.ensures, c.name_noted.ensures, c.section_word-start.ensures.value, c.place_noted-section.ensures)
