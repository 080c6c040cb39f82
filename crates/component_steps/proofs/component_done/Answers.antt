-- All three parts were given, or not.
use Rattle.std.specs.Prelude.{Err}
use Prim.Native.Nat.{ℕ}
use mathlib.Core.Path.{sym, ap, ◌∙◌}
use Rattle.laws.proofs.Tests.{cond_yes, cond_no}
use Rattle.records.specs.Flaws.{bare, checked}
use Rattle.rules.specs.Component.{component_done}
use Rattle.component_steps.proofs.component_done.Goals as goal

pub returns-then-not-all_three : goal.returns-then-not-all_three
unfolding component_done
returns-then-not-all_three c =
    ap Err c.bare_fault.ensures ∙ sym (ap (λ (n : ℕ). checked (bare n)) (cond_no 0 9 (sym c.all_three.ensures ∙ c.if-not-all_three.true)))

pub returns : goal.returns
unfolding component_done
returns c = sym (ap (λ (n : ℕ). checked (bare n)) (cond_yes 0 9 (sym c.all_three.ensures ∙ c.if-not-all_three.false)))
