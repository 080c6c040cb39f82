-- The tests in the definition's order; the place of the first `]` is the scan's.
use mathlib.Core.Path.{sym, ◌∙◌}
use native.Mathlib.Omega.{arith}
use Rattle.cut_lines.proofs.ChangeLaws.{change-empty, change-other, change-open, change-named}
use Rattle.cut_lines.proofs.changes.Goals as goal

pub returns-then-w-eq0 : goal.returns-then-w-eq0
returns-then-w-eq0 c = sym (change-empty c.args.w.now c.if-w-eq0.true)

pub returns-then-w-ne91 : goal.returns-then-w-ne91
returns-then-w-ne91 c = sym (change-other c.args.w.now (omega arith) c.if-w-ne91.true)

pub returns-then-w-stop : goal.returns-then-w-stop
returns-then-w-stop c = sym (change-open c.args.w.now _ c.find-stop.ensures.value c.if-w-stop.true)

pub returns : goal.returns
returns c = c.same_spelled.ensures ∙ sym (change-named c.args.w.now _ c.find-stop.ensures.value (omega arith) c.if-w-ne91.false c.if-w-stop.false)
