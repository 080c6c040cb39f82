-- The code's list is the table's meanings, by computing the table.
use mathlib.Core.Path.{sym}
use Rattle.name_table.proofs.Laws.{meaning-within}
use Rattle.line_rules.specs.Tables.{polarities}
use Rattle.named_lines.proofs.lookups.polarity_at.Goals as goal

pub returns : goal.returns
unfolding polarities
returns c = sym (meaning-within polarities c.args.k _ c.requires)
