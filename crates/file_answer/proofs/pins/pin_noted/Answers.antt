-- By the tests of the row: what is written is its note.
use Rattle.std.specs.Prelude.{is_err}
use mathlib.Core.Path.{sym, ap, ◌∙◌}
use Rattle.note_words.specs.Store.{lies_at, words_of_row, with_name}
use Rattle.records.specs.declared.Kind.TheVariants.{OfPin}
use Rattle.file_answer.proofs.Laws.{unfaulted}
use Rattle.file_answer.proofs.pins.pin_noted.Goals as goal

pub returns : goal.returns
returns c =
    let a = c.args in
    record {
      unbracketed = sym c.bracketed.ensures ∙ c.if-bracketed.false;
      pin = unfaulted _ (ap is_err (sym c.row_fault.ensures) ∙ sym c.is_err.ensures.value ∙ c.if-is_err.false);
      names = c.pin_names-names.result;
      lie = c.pin_names-names.ensures;
      written = c.put_row.ensures ∙ ap (λ x. with_name a.notes.now a.i (lies_at OfPin a.j) (words_of_row x)) c.pin_note-x.ensures.0;
    }
