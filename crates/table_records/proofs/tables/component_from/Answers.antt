-- Field by field.
use mathlib.Core.Path.{ap, ◌∙◌}
use Rattle.table_records.specs.Values.{location_in}
use Rattle.table_records.proofs.Whole.{component-is}
use Rattle.table_records.proofs.tables.component_from.Goals as goal

pub returns : goal.returns
returns c =
    component-is c.args.words.now _ _ _ _ _ _ _ _ _
    c.number_at.ensures
    c.name_at.ensures
    (c.location_in.ensures ∙ ap location_in c.number_at-2.ensures)
    (c.location_in-2.ensures ∙ ap location_in c.number_at-3.ensures)
    c.name_at-2.ensures
    c.triple_at.ensures
    c.triple_at-2.ensures
    c.triple_at-3.ensures
    c.span_at.ensures
