-- The lists of names that are looked up.
use Rattle.std.specs.Prelude.{ℕ, List}
use Prim.Native.String.{String}
use Rattle.laws.specs.Bytes.{bytes}
use Rattle.words.specs.Words.{words}
use Rattle.name_table.specs.declared.NameList.{NameList}
use Rattle.name_table.specs.declared.NameList.TheVariants.{Keywords, ComponentLines, PackageLines, ModelLines, RampLines, Fixtures, Locations, ModelTypes, Polarities, Enables}

-- the names of a list, with a blank between
abbrev pub list_text : NameList → String
list_text Keywords = "ibis_ver file_name file_rev date source notes disclaimer copyright component manufacturer package pin model_selector model voltage_range temperature_range pulldown pullup gnd_clamp power_clamp ramp rising_waveform falling_waveform end"
list_text ComponentLines = "Si_location Timing_location"
list_text PackageLines = "R_pkg L_pkg C_pkg"
list_text ModelLines = "Model_type Polarity Enable C_comp C_comp_pullup C_comp_pulldown C_comp_power_clamp C_comp_gnd_clamp Vinl Vinh Vmeas Cref Rref Vref"
list_text RampLines = "dV/dt_r dV/dt_f R_load"
list_text Fixtures = "R_fixture V_fixture V_fixture_min V_fixture_max C_fixture L_fixture R_dut L_dut C_dut"
list_text Locations = "Pin Die"
list_text ModelTypes = "Input Output I/O 3-state Open_drain I/O_open_drain Open_sink I/O_open_sink Open_source I/O_open_source Input_ECL Output_ECL I/O_ECL 3-state_ECL Terminator"
list_text Polarities = "Inverting Non-Inverting"
list_text Enables = "Active-High Active-Low"

abbrev pub names_in : NameList → List (List ℕ)
names_in l = words (bytes (list_text l))
