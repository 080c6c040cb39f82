-- By whether enough rows are lent.
use native.Mathlib.Omega.{arith}
use Rattle.file_answer.proofs.Accepts.{too_few, loads}
use Rattle.file_answer.proofs.settling.loaded.Goals as goal

pub returns-then-l-lt-MOST_ROWS : goal.returns-then-l-lt-MOST_ROWS
returns-then-l-lt-MOST_ROWS c =
    let a = c.args in
    too_few a.l a.src.now a.notes.now c.refused_at.result (omega (arith, c.if-l-lt-MOST_ROWS.true)) c.refused_at.ensures

pub outlined-requires : goal.outlined-requires
outlined-requires c = c.requires

pub returns : goal.returns
returns c =
    let a = c.args in
    loads a.l a.src.now _ c.outlined.result (omega (arith, c.if-l-lt-MOST_ROWS.false)) c.outlined.ensures
