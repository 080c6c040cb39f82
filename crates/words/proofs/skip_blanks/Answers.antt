-- The front from i on is the front from the start: `front-more` at a turn, `front-stop` and `front-end` at the ways out.
use mathlib.Core.Path.{refl, sym, ◌∙◌}
use native.Mathlib.Omega.{arith}
use Rattle.laws.specs.Bytes.{is_blank}
use Rattle.laws.proofs.Fronts.{front-more, front-stop, front-end}
use Rattle.words.proofs.skip_blanks.Goals as goal

pub loop-i-init : goal.loop-i-init
loop-i-init c = (omega arith, refl)

pub returns-then-not-blank : goal.returns-then-not-blank
returns-then-not-blank c = record {
  value = sym (front-stop is_blank _ _ 0 c.loop-i-test.true (sym c.blank.ensures ∙ c.if-not-blank.true)) ∙ c.loop-i.invariant.1;
  lower_bound = omega arith;
}

pub loop-i-preserved : goal.loop-i-preserved
loop-i-preserved c = (omega arith, front-more is_blank _ _ 0 c.loop-i-test.true (sym c.blank.ensures ∙ c.if-not-blank.false) ∙ c.loop-i.invariant.1)

pub returns : goal.returns
returns c = record {
  value = sym (front-end is_blank _ _ c.loop-i-test.false) ∙ c.loop-i.invariant.1;
  lower_bound = omega arith;
}
