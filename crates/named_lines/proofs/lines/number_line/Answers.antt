-- `=` stands behind the name and its blanks, and a number behind it; or what stands there is told.
use Rattle.std.specs.Prelude.{Err}
use mathlib.Core.Path.{sym, ap, ◌∙◌}
use Rattle.records.specs.Flaws.{told_in}
use Rattle.named_lines.proofs.LineLaws.{assigned-other, assigned-equals}
use Rattle.named_lines.proofs.lines.number_line.Goals as goal

pub returns-then-not-equals_at : goal.returns-then-not-equals_at
returns-then-not-equals_at c =
    let w = c.args.w.now in
    let s = c.skip_blanks-at.ensures in
    ap Err c.at_fault.ensures
    ∙ sym ((assigned-other w _ _ c.name_of-name.ensures.behind s.value s.lower_bound.1 (sym c.equals_at.ensures ∙ c.if-not-equals_at.true)))

pub returns : goal.returns
returns c =
    let w = c.args.w.now in
    let s = c.skip_blanks-at.ensures in
    c.sole_number.ensures
    ∙ sym (ap (λ x. told_in w x) (assigned-equals w _ _ c.name_of-name.ensures.behind s.value (sym c.equals_at.ensures ∙ c.if-not-equals_at.false)))
