-- The rows are the lines under the keyword, all within the section.
use lib.ListN.{length-map}
use Rattle.cut_lines.specs.Cursors.{rest}
use Rattle.laws.specs.Lists.{front}
use Rattle.rules.specs.Reading.{under, is_within, choice_in, choices_in}
use Rattle.lines_under.proofs.Laws.{under-within}
use Rattle.component_records.proofs.sections.selector_of.Goals as goal

pub returns : goal.returns
unfolding choices_in
returns c =
    let ts = rest c.args.src.now c.args.c in
    rw (c.name_of.ensures, c.count_lines-rows.ensures.count, length-map (under (front is_within ts)) choice_in, under-within ts)
