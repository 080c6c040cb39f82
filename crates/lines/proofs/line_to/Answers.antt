-- The line stops at the first LF or the end; what stands before it says which of the laws on the line handed out holds.
use native.Mathlib.Omega.{arith}
use Rattle.lines.proofs.Handed.{hands-last, hands-empty, hands-return, hands-other}
use Rattle.lines.proofs.line_to.Goals as goal
use Rattle.lines.proofs.line_to.Goals.{then-at-stop+else-s-last-eq13, else-at-stop}

pub returns-then-s-stop : goal.returns-then-s-stop
returns-then-s-stop c = record {
  value = (hands-last c.args.s.now _ _ c.requires.stop_value c.requires.at_in_bounds c.if-s-stop.true).1;
  end_le_stop = omega arith;
}

pub returns-then-s-last-eq13 : goal.returns-then-s-last-eq13
returns-then-s-last-eq13 c =
    record {
      value = (hands-return c.args.s.now _ _ c.requires.stop_value c.if-s-stop.false c.if-at-stop.true c.if-s-last-eq13.true).1;
      end_le_stop = omega arith;
    }

pub returns : goal.returns
returns c =
    let s = c.args.s.now in
    let f = c.requires.stop_value in
    elim c.if-at-stop.branch [
      | then-at-stop+else-s-last-eq13 w ↦ record { value = (hands-other s _ _ f c.if-s-stop.false w.if-at-stop.true w.if-s-last-eq13.false).1; end_le_stop = omega arith }
      | else-at-stop w ↦ record { value = (hands-empty s _ _ f c.if-s-stop.false w.if-at-stop.false).1; end_le_stop = omega arith }
    ]
