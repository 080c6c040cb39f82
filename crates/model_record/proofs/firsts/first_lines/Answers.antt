-- A fold over the lines (`first-fold`) that begins with nothing given; a line changes its own part.
use mathlib.Core.Path.{sym, ◌∙◌}
use native.Mathlib.Omega.{arith}
use Rattle.lines_under.proofs.Folds.{gathers-start, line-starts, line-fits, line-less, gathers-line, gathers-end}
use Rattle.model_record.proofs.FirstLaws.{first-fold, line-nothing, line-marks, line-comp, line-split, line-levels}
use Rattle.model_record.proofs.firsts.first_lines.Goals as goal

pub loop-start-init : goal.loop-start-init
loop-start-init c = gathers-start first-fold _ _ _ c.requires

pub next_line-requires : goal.next_line-requires
next_line-requires c = c.loop-start.invariant.along.placed

pub slice_bounds-model_line-count : goal.slice_bounds-model_line-count
slice_bounds-model_line-count c = line-starts c.loop-start.invariant c.in-Line.is c.next_line.ensures

pub slice_bounds-model_line-start : goal.slice_bounds-model_line-start
slice_bounds-model_line-start c = line-starts c.loop-start.invariant c.in-Line.is c.next_line.ensures

pub slice_bounds-model_line-end : goal.slice_bounds-model_line-end
slice_bounds-model_line-end c = line-fits c.loop-start.invariant c.in-Line.is c.next_line.ensures

pub slice_bounds-comp_after-count : goal.slice_bounds-comp_after-count
slice_bounds-comp_after-count c = line-starts c.loop-start.invariant c.in-Line.is c.next_line.ensures

pub slice_bounds-comp_after-start : goal.slice_bounds-comp_after-start
slice_bounds-comp_after-start c = line-starts c.loop-start.invariant c.in-Line.is c.next_line.ensures

pub slice_bounds-comp_after-end : goal.slice_bounds-comp_after-end
slice_bounds-comp_after-end c = line-fits c.loop-start.invariant c.in-Line.is c.next_line.ensures

pub loop-start-smaller-in-3 : goal.loop-start-smaller-in-3
loop-start-smaller-in-3 c = line-less c.loop-start.invariant c.in-Line.is c.next_line.ensures

pub loop-start-preserved-in-3 : goal.loop-start-preserved-in-3
loop-start-preserved-in-3 c =
    gathers-line c.loop-start.invariant c.in-Line.is c.next_line.ensures
    (line-comp c.loop-start.marks c.loop-start.comp c.loop-start.split c.loop-start.levels _ _ (sym c.model_line.ensures ∙ c.in-Some.is) (omega (arith, c.in-3.is)) c.comp_after-comp.ensures)

pub slice_bounds-marks_after-count : goal.slice_bounds-marks_after-count
slice_bounds-marks_after-count c = line-starts c.loop-start.invariant c.in-Line.is c.next_line.ensures

pub slice_bounds-marks_after-start : goal.slice_bounds-marks_after-start
slice_bounds-marks_after-start c = line-starts c.loop-start.invariant c.in-Line.is c.next_line.ensures

pub slice_bounds-marks_after-end : goal.slice_bounds-marks_after-end
slice_bounds-marks_after-end c = line-fits c.loop-start.invariant c.in-Line.is c.next_line.ensures

pub loop-start-smaller-then-n-lt3 : goal.loop-start-smaller-then-n-lt3
loop-start-smaller-then-n-lt3 c = line-less c.loop-start.invariant c.in-Line.is c.next_line.ensures

pub loop-start-preserved-then-n-lt3 : goal.loop-start-preserved-then-n-lt3
loop-start-preserved-then-n-lt3 c =
    gathers-line c.loop-start.invariant c.in-Line.is c.next_line.ensures
    (line-marks c.loop-start.marks c.loop-start.comp c.loop-start.split c.loop-start.levels _ _ (sym c.model_line.ensures ∙ c.in-Some.is) (omega (arith, c.in-0.if-n-lt3-own.true)) c.marks_after-marks.ensures)

pub slice_bounds-split_after-count : goal.slice_bounds-split_after-count
slice_bounds-split_after-count c = line-starts c.loop-start.invariant c.in-Line.is c.next_line.ensures

pub slice_bounds-split_after-start : goal.slice_bounds-split_after-start
slice_bounds-split_after-start c = line-starts c.loop-start.invariant c.in-Line.is c.next_line.ensures

pub slice_bounds-split_after-end : goal.slice_bounds-split_after-end
slice_bounds-split_after-end c = line-fits c.loop-start.invariant c.in-Line.is c.next_line.ensures

pub loop-start-smaller-then-n-lt8 : goal.loop-start-smaller-then-n-lt8
loop-start-smaller-then-n-lt8 c = line-less c.loop-start.invariant c.in-Line.is c.next_line.ensures

pub loop-start-preserved-then-n-lt8 : goal.loop-start-preserved-then-n-lt8
loop-start-preserved-then-n-lt8 c =
    gathers-line c.loop-start.invariant c.in-Line.is c.next_line.ensures
    (line-split c.loop-start.marks c.loop-start.comp c.loop-start.split c.loop-start.levels _ _ (sym c.model_line.ensures ∙ c.in-Some.is) (omega (arith, c.in-4.if-n-lt8-own.true)) (omega (arith, c.in-4.if-n-lt8-own.true)) c.split_after-split.ensures)

pub slice_bounds-levels_after-count : goal.slice_bounds-levels_after-count
slice_bounds-levels_after-count c = line-starts c.loop-start.invariant c.in-Line.is c.next_line.ensures

pub slice_bounds-levels_after-start : goal.slice_bounds-levels_after-start
slice_bounds-levels_after-start c = line-starts c.loop-start.invariant c.in-Line.is c.next_line.ensures

pub slice_bounds-levels_after-end : goal.slice_bounds-levels_after-end
slice_bounds-levels_after-end c = line-fits c.loop-start.invariant c.in-Line.is c.next_line.ensures

pub loop-start-smaller-in_default-n : goal.loop-start-smaller-in_default-n
loop-start-smaller-in_default-n c = line-less c.loop-start.invariant c.in-Line.is c.next_line.ensures

pub loop-start-preserved-in_default-n : goal.loop-start-preserved-in_default-n
loop-start-preserved-in_default-n c =
    gathers-line c.loop-start.invariant c.in-Line.is c.next_line.ensures
    (line-levels c.loop-start.marks c.loop-start.comp c.loop-start.split c.loop-start.levels _ _ (sym c.model_line.ensures ∙ c.in-Some.is) (omega (arith, c.in_default-n.if-n-lt8-own.false, c.in_default-n.if-n-lt3-own.false, c.in_default-n.in_default-own.rest)) c.levels_after-levels.ensures)

pub loop-start-smaller : goal.loop-start-smaller
loop-start-smaller c = line-less c.loop-start.invariant c.in-Line.is c.next_line.ensures

pub loop-start-preserved : goal.loop-start-preserved
loop-start-preserved c =
    gathers-line c.loop-start.invariant c.in-Line.is c.next_line.ensures
    (line-nothing c.loop-start.marks c.loop-start.comp c.loop-start.split c.loop-start.levels _ (sym c.model_line.ensures ∙ c.in_default.is))

pub returns-in-NoLine : goal.returns-in-NoLine
returns-in-NoLine c =
    let g = gathers-end c.loop-start.invariant c.in-NoLine.is c.next_line.ensures in
    record { lines = (rw (c.no_marks-marks.ensures, c.no_cells-comp.ensures, c.no_split-split.ensures, c.no_levels-levels.ensures) at g.whole); stops = g.stops }
