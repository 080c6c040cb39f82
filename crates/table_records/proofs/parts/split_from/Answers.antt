-- Group by group.
use mathlib.Core.Path.{ap, ◌∙◌}
use Rattle.table_records.specs.Records.{range_from, split_from}
use Rattle.table_records.proofs.parts.split_from.Goals as goal

pub returns : goal.returns
unfolding split_from
returns c =
    rw (c.range_from.ensures, c.range_from-2.ensures ∙ ap range_from c.words_from.ensures, c.range_from-3.ensures ∙ ap range_from c.words_from-2.ensures, c.range_from-4.ensures ∙ ap range_from c.words_from-3.ensures)
