-- Where the scan stops is where the line does.
use Rattle.lines.proofs.Handed.{hands_none}
use Rattle.lines.proofs.whole_line.Goals as goal

pub returns-then-s-at : goal.returns-then-s-at
returns-then-s-at c = hands_none c.args.s.now _ c.if-s-at.true

pub line_to-requires : goal.line_to-requires
line_to-requires c = record {
  at_in_bounds = c.if-s-at.false;
  stop_value = c.line_end.ensures.value;
}

pub returns : goal.returns
returns c = c.line_to.ensures.value
