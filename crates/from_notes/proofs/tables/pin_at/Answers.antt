-- By the row's text.
use mathlib.Core.Path.{refl}
use Rattle.layout_by_notes.specs.Lies.{pin_noted}
use Rattle.from_notes.specs.Made.{pin_at}
use Rattle.from_notes.proofs.tables.pin_at.Goals as goal

pub returns : goal.returns
unfolding pin_at pin_noted
returns c = rw (c.pin_of.ensures, c.row_noted.ensures) refl
