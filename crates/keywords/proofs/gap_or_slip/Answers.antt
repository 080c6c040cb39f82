-- A place in the table is found exactly if the name is one of its names.
use mathlib.Core.Path.{sym, ap, ◌∙◌}
use Rattle.laws.proofs.Tests.{cond_yes, cond_no}
use Rattle.hierarchy.specs.Hierarchy.{is_found}
use Rattle.keywords.specs.Form.{spelled}
use Rattle.keywords.proofs.gap_or_slip.Goals as goal

pub returns-in-Some : goal.returns-in-Some
unfolding spelled
returns-in-Some c = sym (cond_yes _ _ (sym c.place.ensures.result_value ∙ ap is_found c.in-Some.is))

pub returns-in-None : goal.returns-in-None
unfolding spelled
returns-in-None c = sym (cond_no _ _ (sym c.place.ensures.result_value ∙ ap is_found c.in-None.is))
