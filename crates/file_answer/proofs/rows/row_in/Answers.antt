-- A row that rises by `row-taken`; all else is amiss.
use mathlib.Core.Path.{sym, ap, ◌∙◌}
use native.Mathlib.Omega.{arith}
use Rattle.line_cells.specs.declared.RowWords.{RowWords}
use Rattle.line_cells.proofs.Rows.{row-there}
use Rattle.model_steps.proofs.Laws.{row-taken}
use Rattle.file_answer.specs.Rows.{seen_rows}
use Rattle.file_answer.proofs.rows.row_in.Goals as goal

pub returns-then-bracketed : goal.returns-then-bracketed
returns-then-bracketed c = λ z head tail. absurd (omega (arith, z, ap (λ (x : RowWords). x.fault) c.amiss.ensures))

pub returns-then-row-ne0 : goal.returns-then-row-ne0
returns-then-row-ne0 c = λ z head tail. absurd (c.if-row-ne0.true z)

pub returns-then-not-rising : goal.returns-then-not-rising
returns-then-not-rising c = λ z head tail. absurd (omega (arith, z, ap (λ (x : RowWords). x.fault) c.amiss-then-not-rising.ensures))

pub returns : goal.returns
returns c = λ z head tail.
    let a = c.args in
    let t = row-there a.w.now c.row_words-row.ensures z in
    record {
      unbracketed = sym c.bracketed.ensures ∙ c.if-bracketed.false;
      row = sym (row-taken t (seen_rows a.seen a.last head tail) (rw (sym c.decimal_in.ensures) (sym c.rising.ensures ∙ c.if-not-rising.false)));
    }
