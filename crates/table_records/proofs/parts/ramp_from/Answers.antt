-- Part by part.
use Rattle.table_records.specs.Records.{ramp_from}
use Rattle.table_records.proofs.parts.ramp_from.Goals as goal

pub returns : goal.returns
unfolding ramp_from
returns c = rw (c.cell_at.ensures, c.slopes_from-2.ensures, c.words_from-2.ensures, c.slopes_from.ensures, c.words_from.ensures, c.flag_in.ensures, c.number_at.ensures)
