-- The code's list is the table's meanings, by computing the table.
use mathlib.Core.Path.{sym}
use Rattle.name_table.proofs.Laws.{meaning-within}
use Rattle.line_rules.specs.Tables.{locations}
use Rattle.named_lines.proofs.lookups.location_at.Goals as goal

pub returns : goal.returns
unfolding locations
returns c = sym (meaning-within locations c.args.k _ c.requires)
