-- The list of `type_in` at the number, or its default.
use Rattle.std.proofs.Common.{rules}
use Rattle.std.proofs.lemmas.Option.{unwrap_or-slice_get}
use Rattle.table_records.specs.Values.{type_in}
use Rattle.table_records.proofs.values.type_in.Goals as goal

pub returns : goal.returns
unfolding type_in
returns c = search (rules, unwrap_or-slice_get)
