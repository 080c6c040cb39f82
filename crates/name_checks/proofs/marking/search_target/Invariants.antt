-- From the last name up: the last of those so far is the last of all.
use mathlib.Core.Path.{◌≡◌}
use Rattle.name_checks.specs.Lookup.{target_to}
use Rattle.name_checks.proofs.marking.search_target.Given as goal

abbrev pub invariant-loop-j : goal.invariant-loop-j
invariant-loop-j l = target_to l.src l.notes l.i l.j ≡ target_to l.src l.notes l.i l.n
