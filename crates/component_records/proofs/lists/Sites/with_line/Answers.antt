-- By the place of the line's name, and by what its word says.
use mathlib.Core.Path.{sym, ◌∙◌}
use Rattle.component_records.proofs.Lines.{site-named, site-unread, site-nothing}
use Rattle.component_records.proofs.lists.Sites.with_line.Goals as goal

pub returns-in_default : goal.returns-in_default
returns-in_default c = site-nothing _ _ (sym c.in_default.ensures)

pub returns-in_default-location_of : goal.returns-in_default-location_of
returns-in_default-location_of c = site-unread _ _ c.in_default-location_of.ensures

pub returns : goal.returns
returns c = c.at.ensures ∙ site-named _ _ _ _ (sym c.in-Some.ensures) c.in-Ok.ensures
