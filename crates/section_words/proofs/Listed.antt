-- A model with its first lines alone is the record before its first keyword, wherever its rows would lie, by `model_is`; and the words of such records.
use Prim.Native.Nat.{ℕ}
use mathlib.Core.Path.{◌≡◌, refl, sym, ap, ◌∙◌}
use mathlib.Core.List.{List, [], ◌∷◌, ◌++◌, map, flat_map}
use Rattle.cut_lines.specs.Texts.{Text}
use Rattle.rules.specs.Reading.{under}
use Rattle.records.specs.Stored.{name_laid}
use Rattle.records.specs.declared.Model.{Model}
use Rattle.record_words.specs.Records.{model_words}
use Rattle.model_record.specs.Firsts.{bare_lines, firsts_on, defaulted}
use Rattle.model_record.specs.Bodies.{bare_body, model_over}
use Rattle.model_record.proofs.BodyLaws.{model_is}
use Rattle.section_words.specs.Models.{model_behind}
use Rattle.section_words.specs.Listed.{listed_model, listed_words, listed_behind}

module _ (n start : ℕ) (name : List ℕ) (ts : List Text) where
  pub listed-bare : (row : ℕ) → model_over n start (name_laid name) (defaulted (firsts_on bare_lines (under ts))) (bare_body 0) ≡ listed_model (model_behind n row start name ts)
  unfolding listed_model
  listed-bare row = ap listed_model (model_is row start n name ts)

  pub listed-behind : (row : ℕ) → listed_behind n start name ts ≡ listed_model (model_behind n row start name ts)
  listed-behind row = sym (listed-bare 0) ∙ listed-bare row

pub listed-flat : (l : List Model) → flat_map model_words (map listed_model l) ≡ flat_map listed_words l
unfolding flat_map
listed-flat [] = refl
listed-flat (m ∷ l) = ap (λ (w : List ℕ). listed_words m ++ w) (listed-flat l)
