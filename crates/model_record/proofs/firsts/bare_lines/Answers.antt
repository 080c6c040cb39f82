-- By what is not there.
use Rattle.model_record.proofs.firsts.bare_lines.Goals as goal

pub returns : goal.returns
returns c = rw (c.no_levels.ensures, c.no_split.ensures, c.no_cells.ensures, c.no_marks.ensures)
