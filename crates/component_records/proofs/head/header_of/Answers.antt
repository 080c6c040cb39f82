-- A fold over the keywords (`head-fold`): what is held follows from the first keyword on.
use mathlib.Core.Path.{sym, ◌∙◌}
use Rattle.lines_under.proofs.Keyed.{follows-key, follows-end, follows-out}
use Rattle.component_records.proofs.Keys.{head-fold, head-laid}
use Rattle.component_records.proofs.head.header_of.Goals as goal

pub returns-then-ends : goal.returns-then-ends
returns-then-ends c = follows-end head-fold c.loop-key.invariant.1 c.in-Some.ensures (sym c.ends.ensures ∙ c.if-ends.true) ∙ head-laid _

pub loop-key-preserved : goal.loop-key-preserved
loop-key-preserved c =
    let h = c.in-Some.ensures in
    (h.placed, follows-key head-fold c.loop-key.invariant.1 h (sym c.ends.ensures ∙ c.if-ends.false) (c.with_key-header.ensures _))

pub returns : goal.returns
returns c = follows-out head-fold c.loop-key.invariant.1 c.in_default.ensures ∙ head-laid _
