-- What the definitions must keep, by computing: a model type's number is its place in document 01's list, so its text is its own name.
use Rattle.std.specs.Prelude.{Some}
use mathlib.Core.Path.{◌≡◌, refl}
use Rattle.records.specs.Types.{type_number}
use Rattle.records.specs.declared.ModelType.{ModelType}
use Rattle.records.specs.declared.ModelType.TheVariants.{Input, Output, InputOutput, ThreeState, OpenDrain, InputOutputOpenDrain, OpenSink, InputOutputOpenSink, OpenSource, InputOutputOpenSource, InputEcl, OutputEcl, InputOutputEcl, ThreeStateEcl, Terminator}
use Rattle.name_table.specs.Places.{meaning_at}
use Rattle.line_rules.specs.Tables.{model_types}

pub number-is-place : (k : ModelType) → meaning_at model_types (type_number k) ≡ Some k
unfolding meaning_at model_types
number-is-place Input = refl
number-is-place Output = refl
number-is-place InputOutput = refl
number-is-place ThreeState = refl
number-is-place OpenDrain = refl
number-is-place InputOutputOpenDrain = refl
number-is-place OpenSink = refl
number-is-place InputOutputOpenSink = refl
number-is-place OpenSource = refl
number-is-place InputOutputOpenSource = refl
number-is-place InputEcl = refl
number-is-place OutputEcl = refl
number-is-place InputOutputEcl = refl
number-is-place ThreeStateEcl = refl
number-is-place Terminator = refl
