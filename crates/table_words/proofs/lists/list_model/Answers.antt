-- What stands behind the noted keyword line is what is noted (`model-behind`), wherever its rows would lie (`listed-behind`).
use mathlib.Core.Path.{refl, ap, ◌∙◌}
use Rattle.cut_lines.specs.Cursors.{rest}
use Rattle.records.specs.Stored.{over}
use Rattle.records.specs.declared.Kind.TheVariants.{OfModel}
use Rattle.records.specs.declared.Model.{Model}
use Rattle.note_words.specs.Store.{lies_at, section_at}
use Rattle.record_words.specs.Records.{model_words}
use Rattle.section_words.specs.Listed.{listed_model}
use Rattle.section_words.proofs.Listed.{listed-behind}
use Rattle.table_words.proofs.Models.{model-behind}
use Rattle.table_words.proofs.lists.list_model.Goals as goal

pub returns : goal.returns
returns c =
    let a = c.args in
    let s = a.src.now in
    let ns = a.notes.now in
    let section = c.place_noted-section in
    let start = c.section_word-start in
    let name = c.name_noted in
    let row = (section_at ns (lies_at OfModel a.i)).row in
    c.list_model.ensures
    ∙ ap (λ (m : Model). over a.model.now (model_words m))
    (listed-behind section.result start.result name.result.now (rest s c.section_noted-c.result) row
    ∙ ap listed_model (model-behind s ns a.i c.section_noted-c.ensures section.ensures refl start.ensures.value name.ensures))
