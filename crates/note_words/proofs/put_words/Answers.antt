-- What is copied into the part stands in the place of what it held.
use native.Mathlib.Omega.{arith}
use Rattle.note_words.proofs.Laws.{sets-part}
use Rattle.note_words.proofs.put_words.Goals as goal

pub returns : goal.returns
returns c = sets-part c.args.notes.now c.args.words.now _ c.args.at _ c.copy_from_slice.ensures.after (omega arith) c.requires
