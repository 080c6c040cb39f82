-- No word, more than one, or one and what it says.
use Rattle.std.specs.Prelude.{Err}
use mathlib.Core.Path.{sym, ap, ◌∙◌}
use lib.ListN.{drop}
use Rattle.decimal.specs.Decimal.{given_cell}
use Rattle.records.specs.Flaws.{told_in, said_there}
use Rattle.line_rules.specs.Fields.{word_by}
use Rattle.line_rules.proofs.Columns.{given-columns}
use Rattle.line_rules.proofs.Told.{word-told}
use Rattle.named_lines.proofs.LineLaws.{sole_none, sole-more, sole-one}
use Rattle.named_lines.proofs.lines.sole_number.Goals as goal

pub returns-then-w-start : goal.returns-then-w-start
returns-then-w-start c =
    let w = c.args.w.now in
    let at = c.args.at in
    let s = c.skip_blanks-next.ensures in
    ap Err c.at_fault.ensures
    ∙ sym ((sole_none (word_by given_cell 0 (drop at w)) w at _ c.word_at-word.ensures _ s.value s.lower_bound.1 c.if-w-start.true))

pub returns-then-next-w : goal.returns-then-next-w
returns-then-next-w c =
    let w = c.args.w.now in
    let at = c.args.at in
    let s = c.skip_blanks-next.ensures in
    ap Err c.at_fault-then-next-w.ensures
    ∙ sym ((sole-more (word_by given_cell 0 (drop at w)) w at _ c.word_at-word.ensures _ s.value s.lower_bound.1 c.if-w-start.false c.if-next-w.true))

pub returns : goal.returns
returns c =
    let w = c.args.w.now in
    let at = c.args.at in
    let s = c.skip_blanks-next.ensures in
    let r = c.word_at-word in
    c.cell_there.ensures
    ∙ ap (λ x. said_there r.result.start x) c.given_cell.ensures
    ∙ (sym (word-told w at _ r.ensures given_cell (given-columns _)))
    ∙ sym (ap (λ x. told_in w x) (sole-one (word_by given_cell 0 (drop at w)) w at _ r.ensures _ s.value s.lower_bound.1 c.if-w-start.false c.if-next-w.false))
