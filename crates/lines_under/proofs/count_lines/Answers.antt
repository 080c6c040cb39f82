-- The lines counted and those from this cursor on are those from the first: a fold that adds one a line.
use mathlib.Core.Path.{refl}
use native.Mathlib.Omega.{arith}
use Rattle.lines_under.proofs.Folds.{gathers-line, gathers-room, gathers-end, count_small}
use Rattle.lines_under.proofs.count_lines.Goals as goal

pub overflow_add-count : goal.overflow_add-count
overflow_add-count c = omega (arith, gathers-room c.loop-start.invariant c.in-Line.is c.next_line.ensures _ count_small)

pub loop-start-preserved : goal.loop-start-preserved
loop-start-preserved c = gathers-line c.loop-start.invariant c.in-Line.is c.next_line.ensures refl

pub returns-in-NoLine : goal.returns-in-NoLine
returns-in-NoLine c =
    let g = gathers-end c.loop-start.invariant c.in-NoLine.is c.next_line.ensures in
    record { count = omega (arith, g.whole); stops = g.stops; bounded = omega (arith, g.grows _ count_small) }
