-- By where the first word stands, and whether the line goes so far.
use native.Mathlib.Omega.{arith}
use Rattle.surplus_word.proofs.Laws.{rest-first, rest-past, rest-there}
use Rattle.surplus_word.proofs.rest_in.Goals as goal

pub returns-then-place-first : goal.returns-then-place-first
returns-then-place-first c = record {
  value = rest-first c.args.line.now c.args.column c.saturating_sub-place.result c.skip_blanks-first.result c.saturating_sub-place.ensures c.skip_blanks-first.ensures.value c.if-place-first.true;
  upper_bound = omega arith;
}

pub returns-then-line-place : goal.returns-then-line-place
returns-then-line-place c = record {
  value = rest-past c.args.line.now c.args.column c.saturating_sub-place.result c.skip_blanks-first.result c.saturating_sub-place.ensures c.skip_blanks-first.ensures.value c.if-line-place.true;
  upper_bound = omega arith;
}

pub returns : goal.returns
returns c = record {
  value = rest-there c.args.line.now c.args.column c.saturating_sub-place.result c.skip_blanks-first.result c.saturating_sub-place.ensures c.skip_blanks-first.ensures.value (omega (arith, c.if-place-first.false)) (omega (arith, c.if-line-place.false));
  upper_bound = omega (arith, c.if-line-place.false);
}
