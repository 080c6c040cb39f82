-- The names are those of the list.
use Rattle.line_rules.specs.Fields.{line_at}
use Rattle.named_lines.proofs.lookups.model_line.Goals as goal

pub returns : goal.returns
unfolding line_at
returns c = c.named_in.ensures
