-- The front from i on is the front from the start: `front-more` at a turn, `front-stop` and `front-end` at the ways out.
use mathlib.Core.Path.{refl, sym, ◌∙◌}
use native.Mathlib.Omega.{arith}
use Rattle.laws.proofs.Fronts.{front-more, front-stop, front-end}
use Rattle.words.specs.Words.{is_ink}
use Rattle.words.proofs.Laws.{ink-no, ink-yes}
use Rattle.words.proofs.skip_ink.Goals as goal

pub loop-i-init : goal.loop-i-init
loop-i-init c = (omega arith, refl)

pub returns-then-blank : goal.returns-then-blank
returns-then-blank c = record {
  value = sym (front-stop is_ink _ _ 0 c.loop-i-test.true (ink-no _ _ c.blank.ensures c.if-blank.true)) ∙ c.loop-i.invariant.1;
  lower_bound = omega arith;
}

pub loop-i-preserved : goal.loop-i-preserved
loop-i-preserved c = (omega arith, front-more is_ink _ _ 0 c.loop-i-test.true (ink-yes _ _ c.blank.ensures c.if-blank.false) ∙ c.loop-i.invariant.1)

pub returns : goal.returns
returns c = record {
  value = sym (front-end is_ink _ _ c.loop-i-test.false) ∙ c.loop-i.invariant.1;
  lower_bound = omega arith;
}
