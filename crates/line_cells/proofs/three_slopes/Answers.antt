-- What is told of three words, read so, is made three slopes: `no-slopes`, `the-slopes`.
use Rattle.std.proofs.Common.{rules, ◌∙◌}
use Rattle.line_rules.specs.Fields.{slope_of, slope_or_missing}
use Rattle.line_rules.proofs.Columns.{slope-columns, missing-columns}
use Rattle.line_cells.proofs.Laws.{reads-by, no-slopes, the-slopes}
use Rattle.line_cells.proofs.three_slopes.Goals as goal

pub returns-in_err-typ : goal.returns-in_err-typ
returns-in_err-typ c =
    let o = no-slopes _ _ (c.in_err-typ.ensures _ _ (reads-by slope_of slope-columns (λ x a e. e)) (reads-by slope_or_missing missing-columns (λ x a e. e))) in
    search rules

pub returns : goal.returns
returns c =
    c.upward.ensures ∙ the-slopes _ _ (c.in_ok-typ.ensures _ _ (reads-by slope_of slope-columns (λ x a e. e)) (reads-by slope_or_missing missing-columns (λ x a e. e)))
