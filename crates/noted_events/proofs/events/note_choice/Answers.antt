-- The note is the row's, by the place of its first word.
use mathlib.Core.Path.{refl}
use Rattle.records.specs.declared.Kind.TheVariants.{OfChoice}
use Rattle.noted_events.proofs.EventLaws.{told-row}
use Rattle.noted_events.proofs.events.note_choice.Goals as goal

pub returns : goal.returns
returns c =
    let a = c.args in
    let name = c.first_in-name in
    let row = c.row_note-x in
    let old : _ × _ = told-row a.src.now a.notes.now a.l a.t a.p c.requires OfChoice name.result name.result _ refl row.ensures.0 row.ensures.1 refl name.ensures.text name.ensures.text c.put_row.ensures c.count_name.ensures in record { p_value = old.0; kept_by = old.1 }
