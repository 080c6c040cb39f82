-- By whether there is a byte.
use mathlib.Core.Path.{sym}
use Rattle.named_lines.proofs.FormLaws.{sized-none, sized-some}
use Rattle.named_lines.proofs.forms.sized.Goals as goal

pub returns-then-w-eq0 : goal.returns-then-w-eq0
returns-then-w-eq0 c = sym (sized-none _ c.args.w.now c.if-w-eq0.true)

pub returns : goal.returns
returns c = sym (sized-some _ c.args.w.now c.if-w-eq0.false)
