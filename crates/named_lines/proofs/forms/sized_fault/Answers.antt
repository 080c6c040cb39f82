-- The text from the place on has the size, or its first character is told.
use Rattle.std.specs.Prelude.{Err}
use mathlib.Core.Path.{sym, ap, ◌∙◌}
use Rattle.laws.proofs.Lists.{part-rest}
use Rattle.records.specs.Flaws.{checked}
use Rattle.line_rules.specs.Fields.{is_sized}
use Rattle.named_lines.proofs.FormLaws.{sized-wrong}
use Rattle.named_lines.proofs.forms.sized_fault.Goals as goal

pub returns-then-not-sized : goal.returns-then-not-sized
returns-then-not-sized c =
    let a = c.args in
    let w = a.w.now in
    ap Err c.at_fault.ensures
    ∙ sym (ap checked (sized-wrong a.most w a.at c.requires (ap (is_sized a.most) (sym (part-rest w a.at)) ∙ sym c.sized.ensures ∙ c.if-not-sized.true)))
