-- Each kind of cell.
use mathlib.Core.Path.{ap, sym}
use Rattle.doubles.specs.Double.{double_of}
use Rattle.doubles.proofs.double_of.Goals as goal

pub returns-in-Missing : goal.returns-in-Missing
unfolding double_of
returns-in-Missing c = sym (ap double_of c.in-Missing.is)
