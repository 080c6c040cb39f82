-- The answer and the notes by `loaded`; what the fills leave of them is what is promised.
use mathlib.Core.Path.{◌∙◌, subst}
use Rattle.records.specs.declared.Lending.{Lending}
use Rattle.file_answer.specs.Sorted.{Loads}
use Rattle.table_words.specs.Packed.{word_tables}
use Rattle.table_reader.proofs.Fills.{fits, finishes}
use Rattle.table_reader.proofs.read.Goals as goal

pub fill_tables-requires : goal.fill_tables-requires
fill_tables-requires c =
    let a = c.args in
    let o = c.loaded-a in
    fits a.src.now (word_tables a.components.now a.pins.now a.selectors.now a.choices.now a.models.now a.waveforms.now a.rows.now) o.new.notes o.result
    (subst (λ (l : Lending). Loads l a.src.now o.result o.new.notes) c.room_in-l.ensures o.ensures)

pub returns : goal.returns
returns c =
    let a = c.args in
    let o = c.loaded-a in
    let f = finishes a.src.now (word_tables a.components.now a.pins.now a.selectors.now a.choices.now a.models.now a.waveforms.now a.rows.now) o.new.notes o.result
    (subst (λ (l : Lending). Loads l a.src.now o.result o.new.notes) c.room_in-l.ensures o.ensures) in
    record { answer = f.answer; tables = c.fill_tables.ensures ∙ f.tables }
