-- By whether the kind is a pin's or a selector row's.
use mathlib.Core.Path.{sym, ◌∙◌}
use Rattle.laws.proofs.Tests.{cond_yes, cond_no}
use Rattle.name_checks.specs.Lookup.{section_behind}
use Rattle.name_checks.proofs.keys.section_behind.Goals as goal

pub returns-then-is_enclosed : goal.returns-then-is_enclosed
unfolding section_behind
returns-then-is_enclosed c =
    let a = c.args in
    sym (cond_yes a.section a.i (sym c.is_enclosed.ensures ∙ c.if-is_enclosed.true))

pub returns : goal.returns
unfolding section_behind
returns c =
    let a = c.args in
    sym (cond_no a.section a.i (sym c.is_enclosed.ensures ∙ c.if-is_enclosed.false))
