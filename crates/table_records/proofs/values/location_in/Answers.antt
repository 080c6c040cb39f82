-- By the number.
use mathlib.Core.Path.{◌≡◌, refl}
use native.Mathlib.Omega.{arith}
use borrow.Author.Tests.{ne_eqb}
use Rattle.table_records.specs.Values.{location_in}
use Rattle.table_records.proofs.values.location_in.Goals as goal

pub returns-in-1 : goal.returns-in-1
unfolding location_in
returns-in-1 c = rw c.in-1.is refl

pub returns-in_default : goal.returns-in_default
unfolding location_in
returns-in_default c = let ne : c.args.n ≡ 1 → ⊥ = omega arith in rw (ne_eqb _ _ ne) refl
