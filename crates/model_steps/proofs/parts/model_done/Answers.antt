-- What is required first, then the thresholds.
use Rattle.std.specs.Prelude.{Err}
use Prim.Native.Nat.{ℕ}
use mathlib.Core.Path.{sym, ap, ◌∙◌}
use Rattle.laws.proofs.Tests.{cond_yes, cond_no}
use Rattle.records.specs.Flaws.{bare, checked}
use Rattle.model_steps.proofs.Laws.{done-whole}
use Rattle.model_steps.proofs.parts.model_done.Goals as goal

pub returns-then-not-is_whole : goal.returns-then-not-is_whole
returns-then-not-is_whole c =
    ap Err c.bare_fault.ensures
    ∙ sym (ap (λ (n : ℕ). checked (bare n)) (done-whole _ ∙ cond_no _ _ (sym c.is_whole.ensures ∙ c.if-not-is_whole.true)))

pub returns-then-is_crossed : goal.returns-then-is_crossed
returns-then-is_crossed c =
    ap Err c.bare_fault-then-is_crossed.ensures
    ∙ sym (ap (λ (n : ℕ). checked (bare n)) (done-whole _ ∙ cond_yes _ _ (sym c.is_whole.ensures ∙ c.if-not-is_whole.false) ∙ cond_yes _ _ (sym c.is_crossed.ensures ∙ c.if-is_crossed.true)))

pub returns : goal.returns
returns c =
    sym (ap (λ (n : ℕ). checked (bare n)) (done-whole _ ∙ cond_yes _ _ (sym c.is_whole.ensures ∙ c.if-not-is_whole.false) ∙ cond_no _ _ (sym c.is_crossed.ensures ∙ c.if-is_crossed.false)))
