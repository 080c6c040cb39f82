-- The key of what is left, from the key so far, is the key of all.
use mathlib.Core.Path.{◌≡◌}
use lib.ListN.{drop}
use Rattle.name_checks.specs.Lookup.{key_from}
use Rattle.name_checks.proofs.keys.name_key.Given as goal

abbrev pub invariant-loop-b : goal.invariant-loop-b
invariant-loop-b l = key_from l.key (drop l.b-index l.name) ≡ key_from l.start l.name
