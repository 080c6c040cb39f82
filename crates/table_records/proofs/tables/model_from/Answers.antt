-- Field by field.
use mathlib.Core.Path.{ap, ◌∙◌}
use Rattle.table_records.specs.Values.{type_in, polarity_in, enable_in}
use Rattle.table_records.specs.Records.{range_from, split_from, ramp_from}
use Rattle.table_records.proofs.Whole.{model_is}
use Rattle.table_records.proofs.tables.model_from.Goals as goal

pub returns : goal.returns
returns c =
    model_is c.args.words.now _ _ _ _ _ _ _ _ _ _ _ _ _ _ _ _ _ _ _ _ _
    c.number_at.ensures
    c.name_at.ensures
    (c.type_in.ensures ∙ ap type_in c.number_at-2.ensures)
    (c.polarity_in.ensures ∙ ap polarity_in c.number_at-3.ensures)
    (c.enable_in.ensures ∙ ap enable_in c.number_at-4.ensures)
    c.triple_at.ensures
    (c.split_from.ensures ∙ ap split_from c.words_from.ensures)
    c.cell_at.ensures
    c.cell_at-2.ensures
    c.cell_at-3.ensures
    c.cell_at-4.ensures
    c.cell_at-5.ensures
    c.cell_at-6.ensures
    c.triple_at-2.ensures
    (c.range_from.ensures ∙ ap range_from c.words_from-2.ensures)
    c.table_at.ensures
    c.table_at-2.ensures
    c.table_at-3.ensures
    c.table_at-4.ensures
    (c.ramp_from.ensures ∙ ap ramp_from c.words_from-3.ensures)
    c.span_at.ensures
