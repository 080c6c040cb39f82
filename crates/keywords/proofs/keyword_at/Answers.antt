-- The keywords in the code are the table's meanings, by computing it; past them nothing stands.
use mathlib.Core.Path.{sym}
use Rattle.name_table.proofs.Laws.{meaning-within, meaning-past}
use Rattle.keywords.specs.Carried.{carried}
use Rattle.keywords.proofs.keyword_at.Goals as goal

pub returns-then-k-lt24 : goal.returns-then-k-lt24
unfolding carried
returns-then-k-lt24 c = sym (meaning-within carried c.args.k _ c.if-k-lt24.true)

pub returns : goal.returns
unfolding carried
returns c = sym (meaning-past carried c.args.k c.if-k-lt24.false)
