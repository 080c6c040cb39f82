-- The text at the number, if the table has one there; else the first.
use Rattle.fault_texts.proofs.Laws.{text-there, text-past}
use Rattle.fault_texts.specs.Texts.{texts_in}
use Rattle.text_buffer.proofs.Laws.{put-text}
use Rattle.text_buffer.specs.Pages.{sheet}
use mathlib.Core.Path.{◌∙◌}
use Rattle.fault_texts.proofs.texts.put_text.Goals as goal

pub returns-then-found-texts : goal.returns-then-found-texts
returns-then-found-texts c =
    let a = c.args in
    c.put_part.ensures ∙ put-text (sheet a.page.now) (text-there (texts_in a.texts.now) a.number (c.part_at-found.ensures.there c.if-found-texts.true))

pub returns-else-found-texts : goal.returns-else-found-texts
returns-else-found-texts c =
    let a = c.args in
    c.put_part-else-found-texts.ensures ∙ put-text (sheet a.page.now) (text-past (texts_in a.texts.now) a.number (c.part_at-found.ensures.past c.if-found-texts.false))
