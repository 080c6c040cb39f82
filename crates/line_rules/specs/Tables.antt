-- The names and words that document 01 lists, in its order. Letter case counts.
use Rattle.std.specs.Prelude.{ℕ, List, [], ◌∷◌, get_or, Some, Option}
use Prim.Native.String.{String}
use Rattle.name_table.specs.Names.{Naming, naming}
use Rattle.name_table.specs.Places.{names_of}
use Rattle.records.specs.Types.{type_number}
use Rattle.records.specs.declared.Location.{Location}
use Rattle.records.specs.declared.Location.TheVariants.{AtPin, AtDie}
use Rattle.records.specs.declared.Polarity.{Polarity}
use Rattle.records.specs.declared.Polarity.TheVariants.{Inverting, NonInverting}
use Rattle.records.specs.declared.Enable.{Enable}
use Rattle.records.specs.declared.Enable.TheVariants.{ActiveHigh, ActiveLow}
use Rattle.records.specs.declared.ModelType.{ModelType}
use Rattle.records.specs.declared.ModelType.TheVariants.{Input, Output, InputOutput, ThreeState, OpenDrain, InputOutputOpenDrain, OpenSink, InputOutputOpenSink, OpenSource, InputOutputOpenSource, InputEcl, OutputEcl, InputOutputEcl, ThreeStateEcl, Terminator}

-- ---- lines with a name, known by their place in the list

abbrev pub component_lines : String
component_lines = "Si_location Timing_location"

abbrev pub package_lines : String
package_lines = "R_pkg L_pkg C_pkg"

abbrev pub model_lines : String
model_lines = "Model_type Polarity Enable C_comp C_comp_pullup C_comp_pulldown C_comp_power_clamp C_comp_gnd_clamp Vinl Vinh Vmeas Cref Rref Vref"

-- those that take three cells: the die capacitance, and what of it each structure has
abbrev pub capacitances : String
capacitances = "C_comp C_comp_pullup C_comp_pulldown C_comp_power_clamp C_comp_gnd_clamp"

abbrev pub ramp_lines : String
ramp_lines = "dV/dt_r dV/dt_f R_load"

abbrev pub fixtures : String
fixtures = "R_fixture V_fixture V_fixture_min V_fixture_max C_fixture L_fixture R_dut L_dut C_dut"

-- ---- a model's tables by their keywords; the waveforms among them

abbrev pub waveform_keywords : String
waveform_keywords = "rising_waveform falling_waveform"

abbrev pub table_keywords : String
table_keywords = "pulldown pullup gnd_clamp power_clamp rising_waveform falling_waveform"

-- ---- words, and what they mean

unfoldable pub locations : List (Naming Location)
locations = naming "Pin" AtPin ∷ naming "Die" AtDie ∷ []

unfoldable pub model_types : List (Naming ModelType)
model_types =
    naming "Input" Input ∷ naming "Output" Output ∷ naming "I/O" InputOutput ∷ naming "3-state" ThreeState
    ∷ naming "Open_drain" OpenDrain ∷ naming "I/O_open_drain" InputOutputOpenDrain
    ∷ naming "Open_sink" OpenSink ∷ naming "I/O_open_sink" InputOutputOpenSink
    ∷ naming "Open_source" OpenSource ∷ naming "I/O_open_source" InputOutputOpenSource
    ∷ naming "Input_ECL" InputEcl ∷ naming "Output_ECL" OutputEcl ∷ naming "I/O_ECL" InputOutputEcl ∷ naming "3-state_ECL" ThreeStateEcl
    ∷ naming "Terminator" Terminator
    ∷ []

-- a model type as document 01 spells it
unfoldable pub type_name : ModelType → List ℕ
type_name t = get_or (names_of model_types) (type_number t) []

unfoldable pub polarities : List (Naming (Option Polarity))
polarities = naming "Inverting" (Some Inverting) ∷ naming "Non-Inverting" (Some NonInverting) ∷ []

unfoldable pub enables : List (Naming (Option Enable))
enables = naming "Active-High" (Some ActiveHigh) ∷ naming "Active-Low" (Some ActiveLow) ∷ []
