-- The constant's words are the table, by computing both: where `found` is refused, they differ.
use mathlib.Core.Path.{ap, ◌∙◌}
use Rattle.laws.specs.Bytes.{is_blank}
use Rattle.words.specs.Words.{words, grown, onto_word}
use Rattle.hierarchy.specs.Hierarchy.{hierarchy, is_found}
use Rattle.hierarchy.proofs.Places.{found-one}
use Rattle.hierarchy.proofs.place.Goals as goal

pub returns : goal.returns
unfolding words grown onto_word is_blank hierarchy
returns c = record {
  value = c.place.ensures;
  result_value = ap is_found c.place.ensures ∙ found-one _ hierarchy 0;
}
