-- By whether the number is one of a line.
use native.Mathlib.Omega.{arith}
use Rattle.lines.specs.Places.{first_bytes}
use Rattle.refusal_text.proofs.Laws.{line-none}
use Rattle.refusal_text.proofs.TextLaws.{none-lies, whole-lies}
use Rattle.refusal_text.proofs.places.whole_line.Goals as goal

pub returns-then-line-eq0 : goal.returns-then-line-eq0
returns-then-line-eq0 c = none-lies c.args.src.now _ (line-none first_bytes c.args.src.now c.args.line c.if-line-eq0.true)

pub returns : goal.returns
returns c = whole-lies c.args.src.now c.args.line c.skip_lines-start.result c.line_at-whole.result (omega (arith, c.if-line-eq0.false)) c.skip_lines-start.ensures.value c.line_at-whole.ensures
