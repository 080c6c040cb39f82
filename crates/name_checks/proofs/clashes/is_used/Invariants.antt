-- The name meets one of all exactly if it meets one of those before place j.
use mathlib.Core.Path.{◌≡◌}
use Rattle.laws.specs.Lists.{part}
use Rattle.name_checks.specs.Lookup.{meets_to}
use Rattle.name_checks.proofs.clashes.is_used.Given as goal

abbrev pub invariant-loop-earlier : goal.invariant-loop-earlier
invariant-loop-earlier l =
    let name = part l.name.start l.name.end l.src in
    meets_to l.src l.notes l.k name l.earlier ≡ meets_to l.src l.notes l.k name l.j
