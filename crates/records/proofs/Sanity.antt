-- What the definitions must keep, by computing: a table keeps what lies past what is laid over it.
use mathlib.Core.Path.{◌≡◌, refl}
use mathlib.Core.List.{[], ◌∷◌}
use Rattle.records.specs.Stored.{over}

pub rest-kept : {A : Type 0} (a b c : A) → over (a ∷ b ∷ []) (c ∷ []) ≡ c ∷ b ∷ []
unfolding over
rest-kept a b c = refl
