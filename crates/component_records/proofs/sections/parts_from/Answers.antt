-- A fold over the keywords (`part-fold`): what is held follows from the first keyword on.
use mathlib.Core.Path.{sym, ◌∙◌}
use Rattle.lines_under.proofs.Keyed.{follows-key, follows_jump, follows-end, follows-out}
use Rattle.component_records.proofs.Keys.{part-fold}
use Rattle.component_records.proofs.sections.parts_from.Goals as goal

pub returns-then-ends : goal.returns-then-ends
returns-then-ends c = follows-end part-fold c.loop-key.invariant.2 c.in-Some.ensures (sym c.ends.ensures ∙ c.if-ends.true)

pub loop-key-preserved : goal.loop-key-preserved
loop-key-preserved c =
    let h = c.in-Some.ensures in
    let r = c.with_key-read.ensures in
    let on = follows-key part-fold c.loop-key.invariant.2 h (sym c.ends.ensures ∙ c.if-ends.false) r.parts in
    (r.placed, r.bounded, follows_jump part-fold on r.keys)

pub returns : goal.returns
returns c = follows-out part-fold c.loop-key.invariant.2 c.in_default.ensures
