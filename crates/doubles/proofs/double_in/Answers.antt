-- The word's cell.
use mathlib.Core.Path.{ap, ◌∙◌}
use Rattle.doubles.specs.Double.{double_of}
use Rattle.doubles.proofs.double_in.Goals as goal

pub returns : goal.returns
returns c = c.double_of.ensures ∙ ap double_of c.cell_in.ensures
