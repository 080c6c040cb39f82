-- The name sought is made of the record's bytes.
use mathlib.Core.Path.{ap, ◌∙◌}
use Rattle.questions.specs.Named.{name_bytes}
use Rattle.questions.specs.Searched.{model_named}
use Rattle.questions.proofs.choices.model_of.Goals as goal

pub returns : goal.returns
unfolding name_bytes
returns c =
    let a = c.args in
    c.model_named.ensures ∙ ap (model_named a.models.now) c.first_bytes.ensures
