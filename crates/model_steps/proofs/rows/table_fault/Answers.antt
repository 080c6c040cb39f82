-- The rows fit, or not.
use Rattle.std.specs.Prelude.{Err}
use Prim.Native.Nat.{ℕ}
use mathlib.Core.Path.{sym, ap, ◌∙◌}
use Rattle.laws.proofs.Tests.{cond_yes, cond_no}
use Rattle.records.specs.Flaws.{bare, checked}
use Rattle.rules.specs.Model.{table_fault}
use Rattle.model_steps.proofs.rows.table_fault.Goals as goal

pub returns-then-not-rows_fit : goal.returns-then-not-rows_fit
unfolding table_fault
returns-then-not-rows_fit c =
    ap Err c.bare_fault.ensures ∙ sym (ap (λ (n : ℕ). checked (bare n)) (cond_no 0 13 (sym c.rows_fit.ensures ∙ c.if-not-rows_fit.true)))

pub returns : goal.returns
unfolding table_fault
returns c = sym (ap (λ (n : ℕ). checked (bare n)) (cond_yes 0 13 (sym c.rows_fit.ensures ∙ c.if-not-rows_fit.false)))
