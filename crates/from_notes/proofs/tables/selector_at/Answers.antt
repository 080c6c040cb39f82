-- By the name's bytes and `selector-noted`, behind the keyword's line.
use Rattle.records.specs.declared.Kind.TheVariants.{OfSelector}
use Rattle.note_words.specs.Store.{lies_at}
use Rattle.from_notes.specs.Made.{selector_at}
use Rattle.from_notes.proofs.Sections.{selector-noted}
use Rattle.from_notes.proofs.tables.selector_at.Goals as goal

pub returns : goal.returns
unfolding selector_at
returns c =
    let a = c.args in
    rw (c.selector_of.ensures, c.name_noted-name.ensures, c.section_word-start.ensures.value, c.place_noted-section.ensures)
    (selector-noted a.src.now a.notes.now (lies_at OfSelector a.i) c.section_noted-c.ensures)
