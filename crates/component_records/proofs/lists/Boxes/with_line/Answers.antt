-- By the place of the line's name, and by what its cells say.
use mathlib.Core.Path.{sym, ◌∙◌}
use Rattle.line_rules.specs.Fields.{cells_line}
use Rattle.lines_under.proofs.Told.{told-says}
use Rattle.component_records.proofs.Lines.{box-named, box-flawed, box-nothing}
use Rattle.component_records.proofs.lists.Boxes.with_line.Goals as goal

pub returns-in_default : goal.returns-in_default
returns-in_default c = box-nothing _ _ (sym c.in_default.ensures)

pub returns-in_default-cells_line : goal.returns-in_default-cells_line
returns-in_default-cells_line c = box-flawed _ _ (sym c.in_default-cells_line.ensures)

pub returns : goal.returns
returns c =
    let w = c.args.w.now in
    c.at.ensures ∙ box-named _ w _ _ (sym c.in-Some.ensures) (told-says w (cells_line w) (sym c.in-Ok.ensures))
