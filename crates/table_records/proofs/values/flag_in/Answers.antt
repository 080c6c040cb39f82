-- By the test.
use mathlib.Core.Path.{refl}
use Rattle.table_records.specs.Values.{flag_in}
use Rattle.table_records.proofs.values.flag_in.Goals as goal

pub returns : goal.returns
unfolding flag_in
returns c = refl
