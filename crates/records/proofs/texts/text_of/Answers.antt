-- The part that is copied is the text's first N bytes, `take_min`; the rest of the zeros stays, `drop-replicate`.
use Rattle.std.proofs.lemmas.List.{take_min, drop-replicate, length-take}
use Rattle.records.specs.Stored.{padded}
use Rattle.records.proofs.texts.text_of.Goals as goal

pub returns : goal.returns
unfolding padded
returns g c = rw (c.copy_from_slice.ensures.after, c.min-n.ensures) simp (drop-replicate, length-take, take_min)
