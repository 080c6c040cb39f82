-- By the two tests.
use Rattle.words.proofs.Laws.{ink-no, ink-yes}
use Rattle.laws.specs.Lists.{other}
use Rattle.named_lines.specs.Places.{is_name_byte}
use Rattle.named_lines.proofs.lines.name_byte.Goals as goal

pub returns-then-blank : goal.returns-then-blank
unfolding is_name_byte
returns-then-blank c = rw (ink-no _ _ c.blank.ensures c.if-blank.true)

pub returns : goal.returns
unfolding is_name_byte other
returns c = rw (ink-yes _ _ c.blank.ensures c.if-blank.false)
