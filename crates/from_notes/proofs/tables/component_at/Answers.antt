-- By the name's bytes and `component-noted`, behind the keyword's line.
use Rattle.records.specs.declared.Kind.TheVariants.{OfComponent}
use Rattle.note_words.specs.Store.{lies_at}
use Rattle.from_notes.specs.Made.{component_at}
use Rattle.from_notes.proofs.Sections.{component-noted}
use Rattle.from_notes.proofs.tables.component_at.Goals as goal

pub returns : goal.returns
unfolding component_at
returns c =
    let a = c.args in
    rw (c.component_of.ensures, c.name_noted-name.ensures, c.section_word-start.ensures.value, c.place_noted-section.ensures)
    (component-noted a.src.now a.notes.now (lies_at OfComponent a.i) c.section_noted-c.ensures)
