-- By whether there is a byte.
use mathlib.Core.Path.{sym}
use Rattle.named_lines.proofs.FormLaws.{bracketed-none, bracketed-some}
use Rattle.named_lines.proofs.forms.bracketed.Goals as goal

pub returns-then-w-eq0 : goal.returns-then-w-eq0
returns-then-w-eq0 c = sym (bracketed-none c.args.w.now c.if-w-eq0.true)

pub returns : goal.returns
returns c = sym (bracketed-some c.args.w.now c.if-w-eq0.false)
