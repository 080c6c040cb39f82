-- Past the end stands a missing cell.
use Rattle.std.proofs.Common.{arith}
use Rattle.std.proofs.lemmas.Grind.{common_steps}
use Rattle.std.proofs.lemmas.Option.{get_or_from_slice_get}
use Rattle.decimal.specs.Answers.{cell_in}
use Rattle.table_records.specs.Values.{cell_at}
use Rattle.table_records.proofs.values.cell_at.Goals as goal

pub returns-in-Some : goal.returns-in-Some
unfolding cell_at
returns-in-Some c = grind (arith, common_steps, get_or_from_slice_get)

pub returns-in-None : goal.returns-in-None
unfolding cell_at cell_in
returns-in-None c = grind (arith, common_steps)
