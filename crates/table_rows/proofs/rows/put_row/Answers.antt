-- Four stores, which `over-four` says of the list.
use Rattle.table_rows.proofs.Stores.{over-four}
use Rattle.table_rows.proofs.rows.put_row.Goals as goal

pub returns : goal.returns
returns c =
    let r = c.args.r in
    over-four c.args.rows.now r.number r.typ r.min r.max c.requires
