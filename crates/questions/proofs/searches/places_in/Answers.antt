-- Before the span's first place none is there.
use native.Mathlib.Omega.{arith}
use Rattle.questions.specs.Searched.{places_in}
use Rattle.questions.proofs.searches.places_in.Goals as goal

pub returns : goal.returns
unfolding places_in
returns c = omega arith
