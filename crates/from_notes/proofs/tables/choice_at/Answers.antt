-- By the row's text.
use mathlib.Core.Path.{refl}
use Rattle.layout_by_notes.specs.Lies.{choice_noted}
use Rattle.from_notes.specs.Made.{choice_at}
use Rattle.from_notes.proofs.tables.choice_at.Goals as goal

pub returns : goal.returns
unfolding choice_at choice_noted
returns c = rw (c.choice_of.ensures, c.row_noted.ensures) refl
