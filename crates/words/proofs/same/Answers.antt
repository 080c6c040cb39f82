-- Equality of slices, as the library has it.
use Rattle.std.proofs.Common.{◌∙◌}
use Rattle.words.proofs.ByPlaces.{pointwise-eqs}
use Rattle.words.proofs.same.Goals as goal

pub returns : goal.returns
returns c = c.eq.ensures ∙ pointwise-eqs _ _
