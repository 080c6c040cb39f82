-- A text is open, or not.
use mathlib.Core.Path.{sym, ◌∙◌}
use Rattle.laws.proofs.Tests.{cond_yes, cond_no}
use Rattle.rules.specs.Header.{header_line}
use Rattle.header_steps.proofs.header_line.Goals as goal

pub returns-then-h : goal.returns-then-h
unfolding header_line
returns-then-h c = sym (cond_yes _ _ c.if-h.true)

pub returns : goal.returns
unfolding header_line
returns c = c.stopped.ensures ∙ sym (cond_no _ _ c.if-h.false)
