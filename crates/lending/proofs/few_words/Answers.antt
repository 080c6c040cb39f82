-- By computing.
use mathlib.Core.Path.{refl}
use Rattle.lending.specs.Lent.{few_words}
use Rattle.lending.proofs.few_words.Goals as goal

pub returns : goal.returns
unfolding few_words
returns c = refl
