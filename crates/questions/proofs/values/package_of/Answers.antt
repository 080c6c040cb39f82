-- Past its end a table has no record.
use mathlib.Core.Path.{ap, ◌∙◌}
use lib.ListN.{length}
use native.Mathlib.Nat.{div-le_self}
use Rattle.table_records.specs.Records.{component_from}
use Rattle.table_records.proofs.Places.{record-none}
use Rattle.questions.proofs.values.package_of.Goals as goal

pub returns-in-Some : goal.returns-in-Some
returns-in-Some c = rw c.in-Some.is c.component_in.ensures

pub returns-in-None : goal.returns-in-None
returns-in-None c =
    let t = c.args.components.now in
    rw c.in-None.is (c.component_in-in-None.ensures ∙ ap component_from (record-none 26 t (length t) (div-le_self (length t) 26)))
