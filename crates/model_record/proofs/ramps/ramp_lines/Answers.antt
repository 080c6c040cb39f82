-- A fold over the lines (`ramp-fold`) that begins with nothing given; a line changes its own part.
use mathlib.Core.Path.{sym, ◌∙◌}
use native.Mathlib.Omega.{arith}
use Rattle.lines_under.proofs.Folds.{gathers-start, line-starts, line-fits, line-less, gathers-line, gathers-end}
use Rattle.model_record.proofs.RampLaws.{ramp-fold, ramp-is, line-nothing, line-rise, line-fall, line-load}
use Rattle.model_record.proofs.ramps.ramp_lines.Goals as goal

pub loop-start-init : goal.loop-start-init
loop-start-init c = gathers-start ramp-fold _ _ _ c.requires

pub next_line-requires : goal.next_line-requires
next_line-requires c = c.loop-start.invariant.along.placed

pub slice_bounds-ramp_line-count : goal.slice_bounds-ramp_line-count
slice_bounds-ramp_line-count c = line-starts c.loop-start.invariant c.in-Line.is c.next_line.ensures

pub slice_bounds-ramp_line-start : goal.slice_bounds-ramp_line-start
slice_bounds-ramp_line-start c = line-starts c.loop-start.invariant c.in-Line.is c.next_line.ensures

pub slice_bounds-ramp_line-end : goal.slice_bounds-ramp_line-end
slice_bounds-ramp_line-end c = line-fits c.loop-start.invariant c.in-Line.is c.next_line.ensures

pub slice_bounds-slopes_after-count : goal.slice_bounds-slopes_after-count
slice_bounds-slopes_after-count c = line-starts c.loop-start.invariant c.in-Line.is c.next_line.ensures

pub slice_bounds-slopes_after-start : goal.slice_bounds-slopes_after-start
slice_bounds-slopes_after-start c = line-starts c.loop-start.invariant c.in-Line.is c.next_line.ensures

pub slice_bounds-slopes_after-end : goal.slice_bounds-slopes_after-end
slice_bounds-slopes_after-end c = line-fits c.loop-start.invariant c.in-Line.is c.next_line.ensures

pub loop-start-smaller-in-0 : goal.loop-start-smaller-in-0
loop-start-smaller-in-0 c = line-less c.loop-start.invariant c.in-Line.is c.next_line.ensures

pub loop-start-preserved-in-0 : goal.loop-start-preserved-in-0
loop-start-preserved-in-0 c =
    gathers-line c.loop-start.invariant c.in-Line.is c.next_line.ensures
    (line-rise c.loop-start.rise c.loop-start.fall c.loop-start.load _ _ (sym c.ramp_line.ensures ∙ c.in-Some.is) (omega (arith, c.in-0.is)) c.slopes_after-rise.ensures)

pub slice_bounds-slopes_after-count-in-1 : goal.slice_bounds-slopes_after-count-in-1
slice_bounds-slopes_after-count-in-1 c = line-starts c.loop-start.invariant c.in-Line.is c.next_line.ensures

pub slice_bounds-slopes_after-start-in-1 : goal.slice_bounds-slopes_after-start-in-1
slice_bounds-slopes_after-start-in-1 c = line-starts c.loop-start.invariant c.in-Line.is c.next_line.ensures

pub slice_bounds-slopes_after-end-in-1 : goal.slice_bounds-slopes_after-end-in-1
slice_bounds-slopes_after-end-in-1 c = line-fits c.loop-start.invariant c.in-Line.is c.next_line.ensures

pub loop-start-smaller-in-1 : goal.loop-start-smaller-in-1
loop-start-smaller-in-1 c = line-less c.loop-start.invariant c.in-Line.is c.next_line.ensures

pub loop-start-preserved-in-1 : goal.loop-start-preserved-in-1
loop-start-preserved-in-1 c =
    gathers-line c.loop-start.invariant c.in-Line.is c.next_line.ensures
    (line-fall c.loop-start.rise c.loop-start.fall c.loop-start.load _ _ (sym c.ramp_line.ensures ∙ c.in-Some.is) (omega (arith, c.in-1.is)) c.slopes_after-fall.ensures)

pub slice_bounds-number_after-count : goal.slice_bounds-number_after-count
slice_bounds-number_after-count c = line-starts c.loop-start.invariant c.in-Line.is c.next_line.ensures

pub slice_bounds-number_after-start : goal.slice_bounds-number_after-start
slice_bounds-number_after-start c = line-starts c.loop-start.invariant c.in-Line.is c.next_line.ensures

pub slice_bounds-number_after-end : goal.slice_bounds-number_after-end
slice_bounds-number_after-end c = line-fits c.loop-start.invariant c.in-Line.is c.next_line.ensures

pub loop-start-smaller-in_default-n : goal.loop-start-smaller-in_default-n
loop-start-smaller-in_default-n c = line-less c.loop-start.invariant c.in-Line.is c.next_line.ensures

pub loop-start-preserved-in_default-n : goal.loop-start-preserved-in_default-n
loop-start-preserved-in_default-n c =
    gathers-line c.loop-start.invariant c.in-Line.is c.next_line.ensures
    (line-load c.loop-start.rise c.loop-start.fall c.loop-start.load _ _ (sym c.ramp_line.ensures ∙ c.in-Some.is) (omega (arith, c.in_default-n.in_default-n-own.rest)) c.number_after-load.ensures)

pub loop-start-smaller : goal.loop-start-smaller
loop-start-smaller c = line-less c.loop-start.invariant c.in-Line.is c.next_line.ensures

pub loop-start-preserved : goal.loop-start-preserved
loop-start-preserved c =
    gathers-line c.loop-start.invariant c.in-Line.is c.next_line.ensures
    (line-nothing c.loop-start.rise c.loop-start.fall c.loop-start.load _ (sym c.ramp_line.ensures ∙ c.in_default.is))

pub returns-in-NoLine : goal.returns-in-NoLine
returns-in-NoLine c =
    let g = gathers-end c.loop-start.invariant c.in-NoLine.is c.next_line.ensures in
    record { ramp = (rw (c.no_slopes-rise.ensures, c.no_slopes-fall.ensures) at g.whole) ∙ ramp-is _; stops = g.stops }
