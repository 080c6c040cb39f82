-- A name as it stands is spelled as it is.
use Prim.Native.Nat.{ℕ}
use mathlib.Core.Path.{ap, ◌∙◌}
use mathlib.Core.List.{List}
use Rattle.laws.proofs.Same.{map_same}
use Rattle.name_table.specs.Names.{place_from}
use Rattle.name_table.specs.Listed.{names_in}
use Rattle.name_table.proofs.place.Goals as goal

pub returns : goal.returns
returns c =
    let a = c.args in
    c.place_as.ensures ∙ ap (λ (l : List ℕ). place_from 0 l (names_in a.list)) (map_same a.w.now)
