-- The name sought is made of the record's bytes.
use mathlib.Core.Path.{ap, ◌∙◌}
use Rattle.questions.specs.Named.{name_bytes}
use Rattle.questions.specs.Searched.{selector_named}
use Rattle.questions.proofs.choices.selector_of.Goals as goal

pub returns : goal.returns
unfolding name_bytes
returns c =
    let a = c.args in
    c.selector_named.ensures ∙ ap (selector_named a.selectors.now) c.first_bytes.ensures
