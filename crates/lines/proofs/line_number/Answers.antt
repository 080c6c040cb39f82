-- By the lines of the file and those from the place on, of which there are no more.
use mathlib.Core.Path.{ap, ◌∙◌}
use mathlib.Core.List.{List}
use Prim.Native.Nat.{ℕ}
use native.Mathlib.Omega.{arith}
use lib.ListN.{length}
use Rattle.laws.proofs.Lists.{part-rest}
use Rattle.lines.specs.Lines.{lines_of}
use Rattle.lines.proofs.Numbers.{lines-fewer, line-past, line-within}
use Rattle.lines.proofs.line_number.Goals as goal

pub returns-then-src-at : goal.returns-then-src-at
returns-then-src-at c = line-past c.args.src.now c.args.at c.count_lines-past.result c.count_lines-past.ensures.value c.if-src-at.true

pub overflow_sub-result : goal.overflow_sub-result
overflow_sub-result c =
    let a = c.args in
    omega (arith, c.count_lines-past.ensures.value, c.count_lines.ensures.value, ap (λ (l : List ℕ). length (lines_of l)) (part-rest a.src.now a.at), lines-fewer a.src.now a.at)

pub returns : goal.returns
returns c =
    let a = c.args in
    line-within a.src.now a.at c.count_lines-past.result c.count_lines.result c.count_lines-past.ensures.value (c.count_lines.ensures.value ∙ ap (λ (l : List ℕ). length (lines_of l)) (part-rest a.src.now a.at))
