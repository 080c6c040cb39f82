-- By whether the bytes are clean.
use mathlib.Core.Path.{sym, ◌∙◌}
use Rattle.file_answer.proofs.Laws.{faulty}
use Rattle.file_answer.proofs.Accepts.{refuses}
use Rattle.file_answer.proofs.settling.outlined.Goals as goal

pub settle-requires : goal.settle-requires
settle-requires c = (sym c.check_bytes.ensures ∙ c.in-Ok.is, c.requires)

pub returns-in-Ok : goal.returns-in-Ok
returns-in-Ok c = c.settle.ensures

pub returns-in-Err : goal.returns-in-Err
returns-in-Err c =
    let a = c.args in
    refuses a.l a.src.now _ _ _ (faulty a.l a.src.now _ (sym c.check_bytes.ensures ∙ c.in-Err.is)) c.refused.ensures
