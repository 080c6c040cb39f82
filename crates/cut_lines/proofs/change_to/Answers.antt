-- The tests in the definition's order; a fault is told at its place.
use Prim.Native.Nat.{ℕ}
use mathlib.Core.Path.{sym, ap, ◌∙◌}
use Rattle.records.specs.Flaws.{Reads, told_in}
use Rattle.cut_lines.proofs.ChangeLaws.{to-wrong, to_none, to-unmarked, to-misspelled, to_end, to-remark, to-followed}
use Rattle.cut_lines.proofs.change_to.Goals as goal

pub returns-then-w-at : goal.returns-then-w-at
returns-then-w-at c =
    let w = c.args.w.now in
    c.wrong_at.ensures ∙ to-wrong w _ _ (to_none w _ c.if-w-at.true) c.requires

pub returns-then-not-is_mark : goal.returns-then-not-is_mark
returns-then-not-is_mark c =
    let w = c.args.w.now in
    c.wrong_at-then-not-is_mark.ensures ∙ to-wrong w _ _ (to-unmarked w _ c.if-w-at.false (sym c.is_mark.ensures ∙ c.if-not-is_mark.true)) c.requires

pub returns-then-not-same : goal.returns-then-not-same
returns-then-not-same c =
    let w = c.args.w.now in
    c.wrong_at-then-not-same.ensures ∙ to-wrong w _ _ (to-misspelled w _ c.if-w-at.false _ c.skip_ink-end.ensures.value (sym c.same.ensures ∙ c.if-not-same.true)) c.requires

pub returns-then-w-behind : goal.returns-then-w-behind
returns-then-w-behind c =
    let w = c.args.w.now in
    let marked = sym c.is_mark.ensures ∙ c.if-not-is_mark.false in
    let word = sym c.same.ensures ∙ c.if-not-same.false in
    ap (λ (x : Reads ℕ). told_in w x) (sym (to_end w _ c.if-w-at.false _ c.skip_ink-end.ensures.value marked word _ c.skip_blanks-behind.ensures.value c.if-w-behind.true))

pub returns-then-w-behind-2 : goal.returns-then-w-behind-2
returns-then-w-behind-2 c =
    let w = c.args.w.now in
    let marked = sym c.is_mark.ensures ∙ c.if-not-is_mark.false in
    let word = sym c.same.ensures ∙ c.if-not-same.false in
    ap (λ (x : Reads ℕ). told_in w x) (sym (to-remark w _ c.if-w-at.false _ c.skip_ink-end.ensures.value marked word _ c.skip_blanks-behind.ensures.value c.if-w-behind.false c.if-w-behind-2.true))

pub returns : goal.returns
returns c =
    let w = c.args.w.now in
    let marked = sym c.is_mark.ensures ∙ c.if-not-is_mark.false in
    let word = sym c.same.ensures ∙ c.if-not-same.false in
    c.wrong_at-2.ensures ∙ to-wrong w _ _ (to-followed w _ c.if-w-at.false _ c.skip_ink-end.ensures.value marked word _ c.skip_blanks-behind.ensures.value c.if-w-behind.false c.if-w-behind-2.false) c.skip_blanks-behind.ensures.lower_bound.1
