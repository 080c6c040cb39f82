-- By what is not there.
use Rattle.model_record.proofs.bodies.bare_body.Goals as goal

pub returns : goal.returns
returns c = rw (c.no_cells.ensures, c.no_cells-2.ensures, c.no_table.ensures, c.no_table-2.ensures, c.no_table-3.ensures, c.no_table-4.ensures, c.no_slopes.ensures, c.no_slopes-2.ensures)
