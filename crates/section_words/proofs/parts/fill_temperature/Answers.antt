-- The three cells behind a flag.
use Rattle.section_words.proofs.parts.fill_temperature.Goals as goal

pub returns : goal.returns
returns c = rw (c.put.ensures, c.triple_words-cells.ensures, c.cells_of.ensures)
