-- No clash among the names before place i, their keys were seen, and the section is theirs.
use Rattle.std.specs.Prelude.{None}
use mathlib.Core.Path.{◌≡◌}
use Rattle.notes.specs.Noted.{clash}
use Rattle.name_checks.specs.Lookup.{section_to, entries_to}
use Rattle.name_checks.proofs.ClashLaws.{Seen}
use Rattle.name_checks.proofs.clashes.first_clash.Given as goal

abbrev pub invariant-loop-i : goal.invariant-loop-i
invariant-loop-i l = (clash (entries_to l.src l.notes l.i) ≡ None) × (Seen l.src l.notes l.i l.seen) × (l.section ≡ section_to l.notes l.i)
