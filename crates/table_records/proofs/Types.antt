-- Model types by number: the number of a type tells it.
use mathlib.Core.Path.{◌≡◌, refl}
use Rattle.records.specs.Types.{type_number}
use Rattle.records.specs.declared.ModelType.{ModelType}
use Rattle.records.specs.declared.ModelType.TheVariants.{Input, Output, InputOutput, ThreeState, OpenDrain, InputOutputOpenDrain, OpenSink, InputOutputOpenSink, OpenSource, InputOutputOpenSource, InputEcl, OutputEcl, InputOutputEcl, ThreeStateEcl, Terminator}
use Rattle.table_records.specs.Values.{type_in}

pub type-back : (t : ModelType) → type_in (type_number t) ≡ t
unfolding type_in
type-back Input = refl
type-back Output = refl
type-back InputOutput = refl
type-back ThreeState = refl
type-back OpenDrain = refl
type-back InputOutputOpenDrain = refl
type-back OpenSink = refl
type-back InputOutputOpenSink = refl
type-back OpenSource = refl
type-back InputOutputOpenSource = refl
type-back InputEcl = refl
type-back OutputEcl = refl
type-back InputOutputEcl = refl
type-back ThreeStateEcl = refl
type-back Terminator = refl
