-- What a `?` hands on: the error that it met.
use Rattle.std.specs.Prelude.{Result, Ok, Err, IsErrAnd}
use mathlib.Core.Path.{◌≡◌, ap}

pub handed_on : {T E : Type 0} {x : E} (r : Result T E) → IsErrAnd r (λ y. y ≡ x) → r ≡ Err x
handed_on (Ok t) h = absurd h
handed_on (Err y) h = ap Err h
