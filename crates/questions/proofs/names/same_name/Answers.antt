-- `is_named` by the bytes of the other name.
use mathlib.Core.Path.{ap, ◌∙◌}
use Rattle.questions.specs.Named.{is_named, same_name, name_bytes}
use Rattle.questions.proofs.names.same_name.Goals as goal

pub returns : goal.returns
unfolding same_name name_bytes
returns c = c.is_named.ensures ∙ ap (is_named c.args.a) c.first_bytes.ensures
