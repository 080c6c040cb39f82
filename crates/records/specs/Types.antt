-- Model types by number: the place in document 01's list, from 0.
use Rattle.std.specs.Prelude.{ℕ}
use Rattle.records.specs.declared.ModelType.{ModelType}
use Rattle.records.specs.declared.ModelType.TheVariants.{Input, Output, InputOutput, ThreeState, OpenDrain, InputOutputOpenDrain, OpenSink, InputOutputOpenSink, OpenSource, InputOutputOpenSource, InputEcl, OutputEcl, InputOutputEcl, ThreeStateEcl, Terminator}

abbrev pub type_number : ModelType → ℕ
type_number Input = 0
type_number Output = 1
type_number InputOutput = 2
type_number ThreeState = 3
type_number OpenDrain = 4
type_number InputOutputOpenDrain = 5
type_number OpenSink = 6
type_number InputOutputOpenSink = 7
type_number OpenSource = 8
type_number InputOutputOpenSource = 9
type_number InputEcl = 10
type_number OutputEcl = 11
type_number InputOutputEcl = 12
type_number ThreeStateEcl = 13
type_number Terminator = 14
