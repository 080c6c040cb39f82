-- A line that adds nothing leaves all as it is; of any other the event is noted.
use mathlib.Core.Path.{refl}
use Rattle.noted_events.proofs.EventLaws.{kept_same}
use Rattle.file_answer.proofs.reading.note_line.Goals as goal

pub returns-in-Quiet : goal.returns-in-Quiet
returns-in-Quiet c =
    let a = c.args in
    record { e_value = rw c.in-Quiet.is refl; kept_by = kept_same a.src.now a.notes.now a.l a.t a.p c.requires }
