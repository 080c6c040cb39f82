-- The words are asked of the name's bytes.
use mathlib.Core.Path.{ap, ◌∙◌}
use Rattle.line_rules.specs.Fields.{needs_no_model}
use Rattle.questions.specs.Named.{name_bytes}
use Rattle.questions.proofs.names.needs_no_model.Goals as goal

pub returns : goal.returns
unfolding name_bytes
returns c = c.needs_no_model.ensures ∙ ap needs_no_model c.first_bytes.ensures
