-- The three cells of the argument.
use Rattle.section_words.proofs.parts.fill_voltage.Goals as goal

pub returns : goal.returns
returns c = rw (c.put.ensures, c.triple_words-cells.ensures, c.cells_of.ensures)
