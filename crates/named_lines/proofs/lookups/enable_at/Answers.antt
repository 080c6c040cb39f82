-- The code's list is the table's meanings, by computing the table.
use mathlib.Core.Path.{sym}
use Rattle.name_table.proofs.Laws.{meaning-within}
use Rattle.line_rules.specs.Tables.{enables}
use Rattle.named_lines.proofs.lookups.enable_at.Goals as goal

pub returns : goal.returns
unfolding enables
returns c = sym (meaning-within enables c.args.k _ c.requires)
