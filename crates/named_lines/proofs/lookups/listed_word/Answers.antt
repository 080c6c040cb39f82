-- `=` right behind the name is told; else what stands behind the name.
use Rattle.std.specs.Prelude.{Err}
use mathlib.Core.Path.{sym, ap, ◌∙◌}
use Rattle.records.specs.Flaws.{told_in}
use Rattle.line_rules.specs.Fields.{alone}
use Rattle.line_rules.proofs.Told.{behind-equals, behind-words}
use Rattle.named_lines.specs.Views.{place_in, place_line}
use Rattle.named_lines.proofs.lookups.listed_word.Goals as goal

pub returns-then-equals_at : goal.returns-then-equals_at
unfolding place_line
returns-then-equals_at c =
    let a = c.args in
    let n = c.name_of-name.ensures in
    ap Err c.at_fault.ensures
    ∙ sym ((behind-equals (alone (place_in a.list)) a.w.now _ n.behind n.ends (sym c.equals_at.ensures ∙ c.if-equals_at.true)))

pub returns : goal.returns
unfolding place_line
returns c =
    let a = c.args in
    let n = c.name_of-name in
    c.sole_listed.ensures
    ∙ sym (ap (λ x. told_in a.w.now x) (behind-words (alone (place_in a.list)) a.w.now n.result.end n.ensures.behind (sym c.equals_at.ensures ∙ c.if-equals_at.false)))
