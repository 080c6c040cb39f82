-- The lines passed so far left nothing: the texts from this line on are those from the first. Each way out is a law on one line more.
use mathlib.Core.Path.{sym, ◌∙◌, subst}
use native.Mathlib.Omega.{arith}
use Rattle.cut_lines.specs.Cursors.{NextIs}
use Rattle.cut_lines.proofs.Laws.{read, cut-is, changed-is, passed_none, passed-empty, passed-text, passed-change, passed-out}
use Rattle.cut_lines.proofs.text_from.Goals as goal

pub loop-at-init : goal.loop-at-init
loop-at-init c = passed_none _ _ c.requires

pub slice_bounds-w-count : goal.slice_bounds-w-count
slice_bounds-w-count c =
    let a = c.args in
    (read a.s.now c.loop-at.at c.loop-at.line a.comment c.cut_line-l.result c.loop-at-test.true c.cut_line-l.ensures).starts

pub slice_bounds-w-start : goal.slice_bounds-w-start
slice_bounds-w-start c = slice_bounds-w-count c

pub slice_bounds-w-end : goal.slice_bounds-w-end
slice_bounds-w-end c =
    let a = c.args in
    (read a.s.now c.loop-at.at c.loop-at.line a.comment c.cut_line-l.result c.loop-at-test.true c.cut_line-l.ensures).ends

pub returns-then-changes : goal.returns-then-changes
returns-then-changes c =
    let a = c.args in
    let l = c.loop-at in
    let r = c.cut_line-l in
    let said = c.change_of.ensures in
    subst (NextIs a.s.now (record { at = a.from; line = a.number; comment = a.comment })) (sym c.changed.ensures)
    (passed-change a.s.now _ _ l.invariant _ _
    (changed-is a.s.now l.at l.line a.comment r.result c.loop-at-test.true r.ensures c.change_of.result said (sym c.changes.ensures ∙ c.if-changes.true)))

pub returns-then-at-l : goal.returns-then-at-l
returns-then-at-l c =
    let a = c.args in
    let l = c.loop-at in
    let r = c.cut_line-l in
    passed-text a.s.now _ _ l.invariant _ _
    (cut-is a.s.now l.at l.line a.comment r.result c.loop-at-test.true r.ensures (sym c.changes.ensures ∙ c.if-changes.false))
    c.if-at-l.true

pub loop-at-smaller : goal.loop-at-smaller
loop-at-smaller c =
    let a = c.args in
    let l = c.loop-at in
    let r = c.cut_line-l in
    let line = read a.s.now l.at l.line a.comment r.result c.loop-at-test.true r.ensures in
    omega (arith, line.rises, line.within)

pub loop-at-preserved : goal.loop-at-preserved
loop-at-preserved c =
    let a = c.args in
    let l = c.loop-at in
    let r = c.cut_line-l in
    passed-empty a.s.now _ _ l.invariant _ _
    (cut-is a.s.now l.at l.line a.comment r.result c.loop-at-test.true r.ensures (sym c.changes.ensures ∙ c.if-changes.false))
    c.if-at-l.false

pub returns : goal.returns
returns c = passed-out _ _ _ c.loop-at.invariant c.loop-at-test.false
