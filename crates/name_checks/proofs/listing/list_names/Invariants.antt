-- The names before place i are listed; a turn of either table is one law.
use mathlib.Core.Path.{◌≡◌}
use Rattle.name_checks.specs.Lookup.{keys_to, slots_to}
use Rattle.name_checks.proofs.listing.list_names.Given as goal

abbrev pub invariant-loop-i : goal.invariant-loop-i
invariant-loop-i l = (l.seen ≡ keys_to l.src l.notes l.initial.seen l.i) × (l.slots ≡ slots_to l.src l.notes l.initial.slots l.i)
