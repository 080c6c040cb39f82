-- Nothing stands there, or its first character is told.
use Rattle.std.specs.Prelude.{Err}
use mathlib.Core.Path.{sym, ap, ◌∙◌}
use Rattle.records.specs.Flaws.{checked}
use Rattle.line_rules.proofs.Told.{argument-none, argument-some}
use Rattle.named_lines.proofs.forms.surplus_fault.Goals as goal

pub returns-then-at-w : goal.returns-then-at-w
returns-then-at-w c = ap Err c.at_fault.ensures ∙ sym (ap checked (argument-some c.args.w.now c.args.at c.if-at-w.true))

pub returns : goal.returns
returns c = sym (ap checked (argument-none c.args.w.now c.args.at c.if-at-w.false))
