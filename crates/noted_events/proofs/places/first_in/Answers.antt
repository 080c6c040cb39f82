-- The first word of a part, at its place in the whole.
use Rattle.noted_events.proofs.PartLaws.{first-in}
use Rattle.noted_events.proofs.places.first_in.Goals as goal

pub returns : goal.returns
returns c = first-in c.args.src.now c.args.a c.args.e c.word_at-w.result c.requires.0 c.requires.1 c.word_at-w.ensures
