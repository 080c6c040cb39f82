-- The lines from this cursor on are those from the first: `passed-change` at a turn, and the ways out by the laws beside it.
use mathlib.Core.Path.{sym, ◌∙◌}
use Rattle.lines_under.proofs.Laws.{passed-change, passed-line, passed-key, passed-out}
use Rattle.lines_under.proofs.next_line.Goals as goal

pub returns-then-bracketed : goal.returns-then-bracketed
returns-then-bracketed c = passed-key c.loop-line.invariant c.in-Text.ensures (sym c.bracketed.ensures ∙ c.if-bracketed.true)

pub returns-in-Text : goal.returns-in-Text
returns-in-Text c = passed-line c.loop-line.invariant c.in-Text.ensures (sym c.bracketed.ensures ∙ c.if-bracketed.false)

pub loop-line-preserved : goal.loop-line-preserved
loop-line-preserved c = passed-change c.loop-line.invariant c.in-Change.ensures

pub returns-in-Out : goal.returns-in-Out
returns-in-Out c = passed-out c.loop-line.invariant c.in-Out.ensures
