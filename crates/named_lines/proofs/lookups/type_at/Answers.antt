-- The code's list is the table's meanings, by computing the table.
use mathlib.Core.Path.{sym}
use Rattle.name_table.proofs.Laws.{meaning-within}
use Rattle.line_rules.specs.Tables.{model_types}
use Rattle.named_lines.proofs.lookups.type_at.Goals as goal

pub returns : goal.returns
unfolding model_types
returns c = sym (meaning-within model_types c.args.k _ c.requires)
