-- Demand 3 and "say the same" compare the larger record: models that say the same have the same capacitance by structure. By the record's field.
use Prim.Native.Nat.{ℕ}
use mathlib.Core.Path.{◌≡◌, ap}
use mathlib.Core.List.{List}
use Rattle.cut_lines.specs.Texts.{Text}
use Rattle.records.specs.declared.Model.{Model}
use Rattle.rules.specs.Reading.{under, no_split, split_says, model_in}
use Rattle.rules.specs.Same.{SameModel}

pub same-split : (v w : List ℕ) (ts us : List Text) → SameModel v ts w us → split_says no_split (under ts) ≡ split_says no_split (under us)
unfolding model_in
same-split v w ts us h = ap (λ (m : Model). m.split) h.model
