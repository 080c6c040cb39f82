-- Behind the rows so far the lines say what they say from the first of them on.
use mathlib.Core.Path.{subst}
use native.Mathlib.Omega.{arith}
use Rattle.laws.specs.Lists.{part}
use Rattle.cut_lines.specs.Cursors.{NextIs}
use Rattle.file_answer.proofs.RowLaws.{passed_none, passed-more, row_goes}
use Rattle.file_answer.proofs.rows.pass_rows.Goals as goal

pub loop-line-init : goal.loop-line-init
loop-line-init c =
    passed_none c.args.src.now c.args.c c.args.r c.args.n c.requires.0

pub next_text-requires : goal.next_text-requires
next_text-requires c = c.loop-line.invariant.placed

pub slice_bounds-row_in-count : goal.slice_bounds-row_in-count
slice_bounds-row_in-count c =
    let h = subst (NextIs c.args.src.now c.loop-line.d) c.in-Text.is c.next_text.ensures in
    omega (arith, h.starts)

pub slice_bounds-row_in-start : goal.slice_bounds-row_in-start
slice_bounds-row_in-start c =
    let h = subst (NextIs c.args.src.now c.loop-line.d) c.in-Text.is c.next_text.ensures in
    omega (arith, h.starts)

pub slice_bounds-row_in-end : goal.slice_bounds-row_in-end
slice_bounds-row_in-end c =
    let h = subst (NextIs c.args.src.now c.loop-line.d) c.in-Text.is c.next_text.ensures in
    h.fits

pub returns-then-row-ne0 : goal.returns-then-row-ne0
returns-then-row-ne0 c = rw c.passed.ensures c.loop-line.invariant

pub overflow_add-count : goal.overflow_add-count
overflow_add-count c =
    let i = c.loop-line in
    let h = c.requires in
    omega (arith, i.invariant.counted, i.invariant.placed.within, h.1, c.well_formed)

pub loop-line-smaller : goal.loop-line-smaller
loop-line-smaller c =
    let h = subst (NextIs c.args.src.now c.loop-line.d) c.in-Text.is c.next_text.ensures in
    omega (arith, h.goes.rises, h.goes.placed.within)

pub loop-line-preserved : goal.loop-line-preserved
loop-line-preserved c =
    let a = c.args in
    let i = c.loop-line in
    let h = subst (NextIs c.args.src.now c.loop-line.d) c.in-Text.is c.next_text.ensures in
    let row = row_goes (part c.in-Text.start c.in-Text.end a.src.now) i.seen i.last c.row_in-row.result c.row_in-row.ensures c.if-row-ne0.false i.head i.tail _ _ _ _ c.decimal_in-last.ensures c.holds_number-tail.ensures c.head_after-head.ensures c.one_more-seen.ensures in
    passed-more a.src.now a.c a.r a.n i.d _ _ i.count _ _ _ _ h row i.invariant

pub returns-in-Change : goal.returns-in-Change
returns-in-Change c = rw c.passed-in-Change.ensures c.loop-line.invariant

pub returns-in-Out : goal.returns-in-Out
returns-in-Out c = rw c.passed-in-Out.ensures c.loop-line.invariant
