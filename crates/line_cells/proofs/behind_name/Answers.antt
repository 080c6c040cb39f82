-- The name, or another word or none: `named-there`, `named-other`.
use Rattle.line_cells.proofs.Headings.{named-there, named-other}
use Rattle.line_cells.proofs.behind_name.Goals as goal

pub returns-then-same : goal.returns-then-same
returns-then-same c = named-there c.word_at-word.ensures c.requires.is_name (cc)

pub returns : goal.returns
returns c = rw c.at_fault.ensures (named-other c.word_at-word.ensures c.requires.is_name (cc))
