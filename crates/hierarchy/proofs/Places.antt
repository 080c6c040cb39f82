-- What a search says: a name is found exactly if it is one of the names, there it stands (`stands_at`), and in the table nowhere else (`once`).
use Rattle.std.specs.Prelude.{Some}
use Prim.Native.Nat.{ℕ, ◌+◌, ◌<◌}
use mathlib.Core.Path.{◌≡◌, refl, ◌∙◌}
use mathlib.Core.List.{List, [], ◌∷◌}
use lib.ListN.{length}
use Rattle.laws.specs.Lists.{eqs, one_of}
use Rattle.laws.proofs.Tests.{by-test}
use Rattle.words.specs.Words.{word}
use Rattle.name_table.specs.Names.{place_from}
use Rattle.name_table.proofs.Laws.{stands_at}
use Rattle.hierarchy.specs.Hierarchy.{hierarchy, is_found}
use Rattle.hierarchy.proofs.Table.{once, is-table}

pub found-one : (w : List ℕ) (ns : List (List ℕ)) (k : ℕ) → is_found (place_from k w ns) ≡ one_of w ns
unfolding place_from one_of
found-one w [] k = refl
found-one w (n ∷ ns) k = by-test (eqs w n) (λ h. rw h) (λ h. rw h (found-one w ns (k + 1)))

pub found_at : (w : List ℕ) (k : ℕ) → place_from 0 w hierarchy ≡ Some k → (k < length hierarchy) × (w ≡ word k hierarchy)
found_at w k e = stands_at w hierarchy k e

pub found-only : (w : List ℕ) (k : ℕ) → place_from 0 w hierarchy ≡ Some k → (i : ℕ) → i < length hierarchy → word i hierarchy ≡ w → i ≡ k
found-only w k e i l q = let f = found_at w k e in once hierarchy is-table i k l f.0 (q ∙ f.1)
