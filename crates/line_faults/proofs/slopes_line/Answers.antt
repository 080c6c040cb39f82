-- `=` right behind the name is told; else what stands behind the name.
use Rattle.std.specs.Prelude.{Err}
use mathlib.Core.Path.{sym, ap, ◌∙◌}
use Rattle.records.specs.Flaws.{told_in}
use Rattle.line_rules.specs.Fields.{three_slopes, slopes_line}
use Rattle.line_rules.proofs.Told.{behind-equals, behind-words}
use Rattle.line_faults.proofs.slopes_line.Goals as goal

pub returns-then-equals_at : goal.returns-then-equals_at
unfolding slopes_line
returns-then-equals_at c =
    let w = c.args.w.now in
    let n = c.name_of-name.ensures in
    ap Err c.at_fault.ensures
    ∙ sym ((behind-equals three_slopes w _ n.behind n.ends (sym c.equals_at.ensures ∙ c.if-equals_at.true)))

pub returns : goal.returns
unfolding slopes_line
returns c =
    let w = c.args.w.now in
    let n = c.name_of-name in
    c.three_slopes.ensures
    ∙ sym (ap (λ x. told_in w x) (behind-words three_slopes w n.result.end n.ensures.behind (sym c.equals_at.ensures ∙ c.if-equals_at.false)))
