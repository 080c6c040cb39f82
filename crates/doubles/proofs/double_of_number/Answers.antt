-- Both ends of the powers, and what lies between them.
use Rattle.std.specs.Prelude.{Ok}
use mathlib.Core.Path.{ap, ◌∙◌}
use lib.Ieee.{Float}
use Rattle.doubles.specs.declared.CellDouble.TheVariants.{Double}
use Rattle.doubles.proofs.Scaled.{too-low, too-high, near-enough}
use Rattle.doubles.proofs.double_of_number.Goals as goal

pub returns-then-d-lt18 : goal.returns-then-d-lt18
returns-then-d-lt18 c = too-low _ c.if-d-lt18.true

pub returns-then-d-gt62 : goal.returns-then-d-gt62
returns-then-d-gt62 c = too-high _ c.if-d-lt18.false c.if-d-gt62.true

pub returns : goal.returns
returns c = ap (λ (x : Float). Ok (Double x)) c.nearest_to.ensures ∙ near-enough _ c.if-d-lt18.false c.if-d-gt62.false
