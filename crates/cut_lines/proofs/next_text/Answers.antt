-- A cursor is its three fields.
use Rattle.cut_lines.proofs.next_text.Goals as goal

pub text_from-requires : goal.text_from-requires
text_from-requires c = c.requires

pub returns : goal.returns
returns c = c.text_from.ensures
