-- The note is the row's, by the places of its first and third words.
use mathlib.Core.Path.{refl}
use Rattle.records.specs.declared.Kind.TheVariants.{OfPin}
use Rattle.noted_events.proofs.EventLaws.{told-row, third-in}
use Rattle.noted_events.proofs.events.note_pin.Goals as goal

pub returns : goal.returns
returns c =
    let a = c.args in
    let s = a.src.now in
    let p = a.p in
    let name = c.first_in-name in
    let signal = c.first_in-signal in
    let model = c.first_in-model in
    let row = c.row_note-x in
    let old : _ × _ = told-row s a.notes.now a.l a.t p c.requires OfPin name.result model.result _ refl row.ensures.0 row.ensures.1 refl name.ensures.text (third-in s p.start p.end name.result signal.result model.result name.ensures signal.ensures model.ensures) c.put_row.ensures c.count_name.ensures in record { p_value = old.0; kept_by = old.1 }
