-- By what the line says as a row: `row-amiss`, else `row-refused` or `row-taken`.
use Rattle.std.specs.Prelude.{Err}
use mathlib.Core.Path.{sym, ap, ◌∙◌}
use native.Mathlib.Omega.{arith}
use Rattle.line_cells.proofs.Rows.{row-there, row-amiss}
use Rattle.model_steps.specs.Rows.{row_step}
use Rattle.model_steps.proofs.Laws.{row-refused, row-taken}
use Rattle.model_steps.proofs.rows.row_step.Goals as goal

pub overflow_cast-result : goal.overflow_cast-result
overflow_cast-result c = omega (arith, (row-amiss c.args.w.now c.row_words-row.ensures c.if-row-ne0.true).1)

pub returns-then-row-ne0 : goal.returns-then-row-ne0
returns-then-row-ne0 c =
    let a = c.args in
    ap (row_step a.r) (row-amiss a.w.now c.row_words-row.ensures c.if-row-ne0.true).0

pub returns-then-not-rising : goal.returns-then-not-rising
returns-then-not-rising c =
    let a = c.args in
    let n = c.decimal_in-number.ensures in
    let t = row-there a.w.now c.row_words-row.ensures c.if-row-ne0.false in
    ap Err c.bare_fault.ensures ∙ row-refused t a.r (rw (sym n) (sym c.rising.ensures ∙ c.if-not-rising.true))

pub returns : goal.returns
returns c =
    let a = c.args in
    let n = c.decimal_in-number.ensures in
    let t = row-there a.w.now c.row_words-row.ensures c.if-row-ne0.false in
    rw (c.with_row.ensures, c.holds_number.ensures, n)
    (row-taken t a.r (rw (sym n) (sym c.rising.ensures ∙ c.if-not-rising.false)))
