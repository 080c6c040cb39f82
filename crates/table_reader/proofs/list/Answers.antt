-- The answer and the notes by `outlined`; what the fills leave of them is what is promised.
use mathlib.Core.Path.{◌∙◌, subst}
use Rattle.records.specs.declared.Lengths.{Lengths}
use Rattle.file_answer.specs.Sorted.{Outlines}
use Rattle.table_words.specs.Packed.{list_tables}
use Rattle.table_reader.proofs.Lists.{has_room, lists}
use Rattle.table_reader.proofs.list.Goals as goal

pub list_tables-requires : goal.list_tables-requires
list_tables-requires c =
    let a = c.args in
    let o = c.outlined-a in
    has_room a.src.now (list_tables a.pins.now a.selectors.now a.choices.now a.models.now) o.new.notes o.result
    (subst (λ (l : Lengths). Outlines l a.src.now o.result o.new.notes) c.lengths_listed-l.ensures o.ensures)

pub returns : goal.returns
returns c =
    let a = c.args in
    let o = c.outlined-a in
    let f = lists a.src.now (list_tables a.pins.now a.selectors.now a.choices.now a.models.now) o.new.notes o.result
    (subst (λ (l : Lengths). Outlines l a.src.now o.result o.new.notes) c.lengths_listed-l.ensures o.ensures) in
    record { answer = f.answer; tables = c.list_tables.ensures ∙ f.tables }
