-- The first fault from here on is told, from the last name up.
use Prim.Native.Nat.{◌-◌}
use mathlib.Core.Path.{◌≡◌}
use Rattle.name_checks.specs.Lookup.{unmarked_from}
use Rattle.name_checks.proofs.marking.first_unlisted.Given as goal

abbrev pub invariant-loop-j : goal.invariant-loop-j
invariant-loop-j l = l.first ≡ unmarked_from l.notes l.marks l.j (l.n - l.j)
