-- By computing.
use mathlib.Core.Path.{refl}
use Rattle.lending.specs.Lent.{many_words}
use Rattle.lending.proofs.many_words.Goals as goal

pub returns : goal.returns
unfolding many_words
returns c = refl
