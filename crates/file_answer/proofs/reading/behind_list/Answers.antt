-- Rows leave the store as it is.
use Rattle.file_answer.proofs.reading.behind_list.Goals as goal

pub behind_rows-requires : goal.behind_rows-requires
behind_rows-requires c =
    let p = c.requires in
    record { placed = p.placed; within = p.within; rows = p.rows }

pub returns-in-InModel : goal.returns-in-InModel
returns-in-InModel c =
    let p = c.behind_rows.ensures in
    record { says = p.says c.args.l c.args.notes.now; sound = record { placed = p.steady.placed; reached = p.reached c.requires.reached; small = c.requires.small; store = c.requires.store; within = p.steady.within; filed = p.filed c.args.notes.now c.requires.filed; rows = p.steady.rows }; from = p.from }

pub returns : goal.returns
returns c = c.behind_pins.ensures
