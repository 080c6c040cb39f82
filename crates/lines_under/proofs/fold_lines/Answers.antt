-- Each line is gathered, as the call made it: `along-line`, `gathers-line`.
use Rattle.lines_under.proofs.Laws.{along-line}
use Rattle.lines_under.proofs.Folds.{gathers-line, gathers-end}
use Rattle.lines_under.proofs.fold_lines.Goals as goal

pub loop-start-preserved : goal.loop-start-preserved
loop-start-preserved g c =
    let i = c.loop-start.invariant in
    record {
      callable = i.callable;
      along = along-line i.along c.in-Line.ensures;
      gathers = λ f h k s. gathers-line (i.gathers f h k s) c.in-Line.is c.next_line.ensures (s.makes _ _ _ c.step-x.ensures);
    }

pub returns-in-NoLine-clause-folded : goal.returns-in-NoLine-clause-folded
returns-in-NoLine-clause-folded g c f h k s = (gathers-end (c.loop-start.invariant.gathers f h k s) c.in-NoLine.is c.next_line.ensures).whole
