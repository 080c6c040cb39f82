-- The first word from the start of the line, by `first-is`.
use Rattle.named_lines.proofs.LineLaws.{first-is}
use Rattle.named_lines.proofs.lines.first_word.Goals as goal

pub returns : goal.returns
returns c = first-is c.args.w.now _ c.word_at.ensures
