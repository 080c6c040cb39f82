-- The place of the first `]` is the scan's; then the argument, behind its blanks.
use Rattle.std.specs.Prelude.{Err}
use Prim.Native.Nat.{ℕ}
use mathlib.Core.Path.{sym, ap, ◌∙◌}
use native.Mathlib.Omega.{arith}
use Rattle.keywords.proofs.Laws.{closed-within}
use Rattle.records.specs.Flaws.{Reads, told_in}
use Rattle.cut_lines.proofs.ChangeLaws.{to-unformed, change-none, change-unclosed, change-closed}
use Rattle.cut_lines.proofs.change_of.Goals as goal

pub returns-then-w-eq0 : goal.returns-then-w-eq0
returns-then-w-eq0 c = ap Err c.bare_fault.ensures ∙ to-unformed c.args.w.now _ (change-none c.args.w.now c.if-w-eq0.true)

pub returns-then-not-closed_at : goal.returns-then-not-closed_at
returns-then-not-closed_at c =
    let w = c.args.w.now in
    ap Err c.bare_fault-then-not-closed_at.ensures ∙ to-unformed w _ (change-unclosed w _ c.find-stop.ensures.value (sym c.closed_at.ensures ∙ c.if-not-closed_at.true))

pub skip_blanks-requires : goal.skip_blanks-requires
skip_blanks-requires c =
    let h = closed-within c.args.w.now c.find-stop.result (sym c.closed_at.ensures ∙ c.if-not-closed_at.false) in
    omega arith

pub returns : goal.returns
returns c =
    let w = c.args.w.now in
    let closed = sym c.closed_at.ensures ∙ c.if-not-closed_at.false in
    c.change_to.ensures ∙ ap (λ (x : Reads ℕ). told_in w x) (sym (change-closed w _ c.find-stop.ensures.value _ closed c.skip_blanks.ensures.value))
