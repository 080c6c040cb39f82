-- Where the allowed bytes end, the line's end or its lack says which law of `Places` holds.
use mathlib.Core.Path.{sym, ◌∙◌}
use native.Mathlib.Omega.{arith}
use Rattle.lines.proofs.Places.{forbidden, long-unended, short-unended, long-ended, good-line, break-within}
use Rattle.lines.proofs.line_check.Goals as goal

pub returns-then-end-s : goal.returns-then-end-s
returns-then-end-s c = record {
  by_index = λ k. forbidden c.args.s.now _ _ c.skip_allowed-end.ensures.value k c.if-end-s.true (sym c.line_break-ending.ensures ∙ c.if-ending-eq0.true);
  goes = tt;
}

pub returns-then-end-at-gt-LINE : goal.returns-then-end-at-gt-LINE
returns-then-end-at-gt-LINE c = record {
  by_index = λ k. long-unended c.args.s.now _ _ c.skip_allowed-end.ensures.value c.requires c.if-end-s.false k c.if-end-at-gt-LINE.true;
  goes = tt;
}

pub returns-then-ending-eq0 : goal.returns-then-ending-eq0
returns-then-ending-eq0 c = record {
  by_index = λ k. short-unended c.args.s.now _ _ c.skip_allowed-end.ensures.value c.requires c.if-end-s.false k c.if-end-at-gt-LINE.false;
  goes = tt;
}

pub returns-then-end-at-gt-LINE-2 : goal.returns-then-end-at-gt-LINE-2
returns-then-end-at-gt-LINE-2 c = record {
  by_index = λ k. long-ended c.args.s.now _ _ c.skip_allowed-end.ensures.value _ c.line_break-ending.ensures c.if-ending-eq0.false k c.if-end-at-gt-LINE-2.true;
  goes = tt;
}

pub overflow_add-result : goal.overflow_add-result
overflow_add-result c = omega (arith, break-within c.args.s.now c.skip_allowed-end.result c.line_break-ending.result c.line_break-ending.ensures c.if-ending-eq0.false)

pub returns : goal.returns
returns c =
    let b = break-within c.args.s.now c.skip_allowed-end.result c.line_break-ending.result c.line_break-ending.ensures c.if-ending-eq0.false in
    record {
      by_index = λ k. good-line c.args.s.now _ _ c.skip_allowed-end.ensures.value _ c.line_break-ending.ensures c.if-ending-eq0.false k c.if-end-at-gt-LINE-2.false;
      goes = (omega arith, b);
    }
