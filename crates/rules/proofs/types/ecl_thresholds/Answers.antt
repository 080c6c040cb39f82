-- Number by number.
use Rattle.rules.proofs.types.ecl_thresholds.Goals as goal

pub returns : goal.returns
returns c = rw (c.volts.ensures, c.volts-2.ensures)
