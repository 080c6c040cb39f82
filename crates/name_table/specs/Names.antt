-- Tables of names, each with what it means, and looking a name up in one. The whole name counts, never a part of it.
use Rattle.std.specs.Prelude.{ℕ, ◌+◌, List, [], ◌∷◌, Bool, cond, Option, None, Some}
use Prim.Native.String.{String}
use Rattle.laws.specs.Bytes.{bytes}
use Rattle.laws.specs.Lists.{eqs}

-- a name and what it means
pub record Naming (A : Type 0) : Type 0 where
  pub name : List ℕ
  pub means : A

abbrev pub naming : {A : Type 0} → String → A → Naming A
naming s a = record { name = bytes s; means = a }

-- what a name means in a table
unfoldable pub meaning : {A : Type 0} → List ℕ → List (Naming A) → Option A
meaning w [] = None
meaning w (e ∷ es) = cond (eqs w e.name) (Some e.means) (meaning w es)

-- the place of the first name that passes a test, counted from k on
abbrev pub first_from : (List ℕ → Bool) → ℕ → List (List ℕ) → Option ℕ
first_from p k [] = None
first_from p k (n ∷ ns) = cond (p n) (Some k) (first_from p (k + 1) ns)

-- the place of a name among names, counted from k on
unfoldable pub place_from : ℕ → List ℕ → List (List ℕ) → Option ℕ
place_from k w ns = first_from (eqs w) k ns
