-- What every element of lists has, every element of the lists together has; and what follows from it. By induction over the list.
use mathlib.Core.List.{List, [], ◌∷◌, ◌++◌}
use Rattle.laws.specs.Lists.{Every}

pub every_append : {A : Type 0} (P : A → Type 0) (l m : List A) → Every P l → Every P m → Every P (l ++ m)
every_append P [] m x y = y
every_append P (a ∷ l) m x y = (x.0, every_append P l m x.1 y)

pub every_map : {A : Type 0} (P Q : A → Type 0) (l : List A) → ((a : A) → P a → Q a) → Every P l → Every Q l
every_map P Q [] f x = tt
every_map P Q (a ∷ l) f x = (f a x.0, every_map P Q l f x.1)
