-- The blanks' end and the name's end are the scans', by `name-text` and `name-behind`.
use Rattle.named_lines.proofs.LineLaws.{name-text, name-behind}
use Rattle.named_lines.proofs.lines.name_of.Goals as goal

pub returns : goal.returns
returns c =
    let w = c.args.w.now in
    let s = c.skip_blanks-start.ensures in
    let n = c.skip_name-end.ensures in
    record { text = name-text w _ s.value _ n.value; behind = name-behind w _ s.value _ n.value; starts = n.lower_bound.0; ends = n.lower_bound.1 }
