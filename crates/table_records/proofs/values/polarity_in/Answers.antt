-- By the number.
use mathlib.Core.Path.{refl}
use native.Mathlib.Omega.{arith}
use borrow.Author.Tests.{ne_eqb}
use Rattle.table_records.specs.Values.{polarity_in}
use Rattle.table_records.proofs.values.polarity_in.Goals as goal

pub returns-in-1 : goal.returns-in-1
unfolding polarity_in
returns-in-1 c = rw c.in-1.is refl

pub returns-in-2 : goal.returns-in-2
unfolding polarity_in
returns-in-2 c = rw c.in-2.is refl

pub returns-in_default : goal.returns-in_default
unfolding polarity_in
returns-in_default c = rw (ne_eqb c.args.n 1 (λ e. omega arith), ne_eqb c.args.n 2 (λ e. omega arith)) refl
