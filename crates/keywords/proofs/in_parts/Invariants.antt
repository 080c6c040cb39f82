-- From here on, with what stands just before, the parts are joined as from the start: a law for each branch.
use mathlib.Core.Path.{◌≡◌}
use mathlib.Core.Bool.{false}
use lib.ListN.{drop}
use Rattle.keywords.specs.Form.{in_parts}
use Rattle.keywords.proofs.in_parts.Given as goal

abbrev pub invariant-loop-b : goal.invariant-loop-b
invariant-loop-b l = in_parts l.part (drop l.b-index l.w) ≡ in_parts false l.w
