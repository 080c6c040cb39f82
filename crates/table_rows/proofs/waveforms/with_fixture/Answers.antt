-- By the place of the line's name, and by what the line says.
use mathlib.Core.Path.{sym, ◌∙◌}
use Rattle.line_rules.specs.Fields.{number_line}
use Rattle.lines_under.proofs.Told.{told-says}
use Rattle.table_rows.proofs.WaveformLaws.{fixture-named, fixture-bad, fixture-nothing}
use Rattle.table_rows.proofs.waveforms.with_fixture.Goals as goal

pub returns-in_default : goal.returns-in_default
returns-in_default c = fixture-nothing _ _ (sym c.in_default.ensures)

pub returns-in_default-number_line : goal.returns-in_default-number_line
returns-in_default-number_line c = fixture-bad _ _ (sym c.in_default-number_line.ensures)

pub returns : goal.returns
returns c =
    let w = c.args.w.now in
    c.fixture_at.ensures ∙ fixture-named _ w _ _ (sym c.in-Some.ensures) (told-says w (number_line w) (sym c.in-Ok.ensures))
