-- The old section closes, or not: what `close_section` answers is `done`.
use mathlib.Core.Path.{refl, sym, ◌∙◌}
use Rattle.laws.proofs.Handed.{handed_on}
use Rattle.steps.proofs.section_key.Goals as goal

pub returns-in_err-close_section : goal.returns-in_err-close_section
returns-in_err-close_section c = handed_on _ c.from_residual.ensures.1 ∙ rw (sym c.close_section.ensures, c.in_err-close_section.was) refl

pub open_section-requires : goal.open_section-requires
open_section-requires c = c.requires

pub returns : goal.returns
returns c = c.open_section.ensures ∙ rw (sym c.close_section.ensures, c.in_ok-close_section.was) refl
