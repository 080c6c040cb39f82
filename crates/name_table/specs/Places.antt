-- A table's names one after another, and what stands at a place of it: as the code finds it.
use Rattle.std.specs.Prelude.{ℕ, List, [], ◌∷◌, map, Option, None, Some}
use Rattle.name_table.specs.Names.{Naming}

-- the names of a table
abbrev pub naming_name : {A : Type 0} → Naming A → List ℕ
naming_name e = e.name

unfoldable pub names_of : {A : Type 0} → List (Naming A) → List (List ℕ)
names_of es = map naming_name es

-- what stands at a place of a table
unfoldable pub meaning_at : {A : Type 0} → List (Naming A) → ℕ → Option A
meaning_at [] k = None
meaning_at (e ∷ es) ℕ.zero = Some e.means
meaning_at (e ∷ es) (ℕ.suc k) = meaning_at es k

unfoldable pub meaning_of : {A : Type 0} → List (Naming A) → Option ℕ → Option A
meaning_of es None = None
meaning_of es (Some k) = meaning_at es k
