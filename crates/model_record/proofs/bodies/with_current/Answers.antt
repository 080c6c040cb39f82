-- By the kind of table.
use Rattle.model_record.proofs.bodies.with_current.Goals as goal

pub returns-in-Pulldown : goal.returns-in-Pulldown
returns-in-Pulldown c = rw (c.in-Pulldown.is, c.with_table-next.ensures)

pub returns-in-Pullup : goal.returns-in-Pullup
returns-in-Pullup c = rw (c.in-Pullup.is, c.with_table-next-in-Pullup.ensures)

pub returns-in-GndClamp : goal.returns-in-GndClamp
returns-in-GndClamp c = rw (c.in-GndClamp.is, c.with_table-next-in-GndClamp.ensures)

pub returns-in-PowerClamp : goal.returns-in-PowerClamp
returns-in-PowerClamp c = rw (c.in-PowerClamp.is, c.with_table-next-in-PowerClamp.ensures)
