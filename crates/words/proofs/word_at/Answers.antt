-- The two scans are the first word's ends, by `words-none` and `words-some`; the second begins behind the word's first byte, by `ink-goes`.
use mathlib.Core.Path.{sym}
use native.Mathlib.Omega.{arith}
use Rattle.laws.proofs.Fronts.{front-end}
use Rattle.words.specs.Words.{is_ink}
use Rattle.words.proofs.Laws.{run-from, rest-here, rest-next, words-none, words-some, word-rises, ink-goes}
use Rattle.words.proofs.word_at.Goals as goal

pub returns-then-s-start : goal.returns-then-s-start
returns-then-s-start c =
    let s = c.args.s.now in
    let a = c.skip_blanks-start.ensures in
    let h = c.if-s-start.true in
    let e = sym (front-end is_ink s _ h) in
    record {
      here = rest-here s _ _ a.value;
      next = rest-next s _ _ _ a.value e;
      is = run-from s _ _ _ a.value e;
      none = λ g. words-none s _ _ a.value g;
      some = λ g. absurd (omega (arith, g, h));
      rises = λ g. absurd (omega (arith, g, h));
      from = omega arith;
      starts = omega arith;
      ends = omega arith;
    }

pub returns : goal.returns
returns c =
    let s = c.args.s.now in
    let a = c.skip_blanks-start.ensures in
    let e = ink-goes s _ _ a.value c.if-s-start.false _ c.skip_ink-end.ensures.value in
    record {
      here = rest-here s _ _ a.value;
      next = rest-next s _ _ _ a.value e;
      is = run-from s _ _ _ a.value e;
      none = λ g. words-none s _ _ a.value g;
      some = λ g. words-some s _ _ a.value g _ e;
      rises = λ g. word-rises s _ _ a.value g _ e;
      from = omega arith;
      starts = omega arith;
      ends = omega arith;
    }
