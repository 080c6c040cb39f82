-- Field by field.
use mathlib.Core.Path.{ap, ◌∙◌}
use Rattle.table_records.specs.Values.{edge_in}
use Rattle.table_records.proofs.Whole.{waveform-is}
use Rattle.table_records.proofs.tables.waveform_from.Goals as goal

pub returns : goal.returns
returns c =
    waveform-is c.args.words.now _ _ _ _ _ _ _ _ _ _ _
    (c.edge_in.ensures ∙ ap edge_in c.number_at.ensures)
    c.cell_at.ensures
    c.cell_at-2.ensures
    c.cell_at-3.ensures
    c.cell_at-4.ensures
    c.cell_at-5.ensures
    c.cell_at-6.ensures
    c.cell_at-7.ensures
    c.cell_at-8.ensures
    c.cell_at-9.ensures
    c.span_at.ensures
