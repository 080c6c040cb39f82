-- Three cells, or none that count.
use mathlib.Core.Path.{ap, ◌∙◌}
use Rattle.laws.specs.Said.{or_else}
use Rattle.line_rules.specs.Fields.{three_cells}
use Rattle.records.specs.Stored.{no_cells}
use Rattle.records.proofs.Columns.{told-else}
use Rattle.model_record.proofs.bodies.cells_of.Goals as goal

pub returns : goal.returns
returns c =
    let w = c.args.argument.now in
    c.triple_is.ensures ∙ ap (or_else no_cells) c.three_cells.ensures ∙ told-else w no_cells (three_cells w)
