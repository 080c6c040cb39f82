-- By whether a selector has the name.
use Rattle.std.specs.Prelude.{ℕ, Option}
use mathlib.Core.Path.{sym, ap, ◌∙◌}
use Rattle.records.specs.declared.Selector.{Selector}
use Rattle.questions.specs.Chosen.{first_choice, name_for, selected}
use Rattle.questions.proofs.choices.name_for.Goals as goal

pub returns-in-Some : goal.returns-in-Some
unfolding name_for
returns-in-Some c =
    let selectors = c.args.selectors.now in
    let choices = c.args.choices.now in
    c.first_choice.ensures
    ∙ ap (λ (s : Selector). first_choice choices s.choices) c.selector_in.ensures
    ∙ ap (λ (f : Option ℕ). selected selectors choices f c.args.p.model) (sym c.in-Some.is ∙ c.selector_of.ensures)

pub returns-in-None : goal.returns-in-None
unfolding name_for
returns-in-None c = ap (λ (f : Option ℕ). selected c.args.selectors.now c.args.choices.now f c.args.p.model) (sym c.in-None.is ∙ c.selector_of.ensures)
