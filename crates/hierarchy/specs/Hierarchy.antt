-- Source document 000, section 3a: every keyword of the hierarchy, from all three of its trees (.ibs, .pkg and .ebd files). Each name stands in
-- small letters with underscores, and they stand in the order of their bytes: document 02, "into one long constant table of names".
use Rattle.std.specs.Prelude.{ℕ, List, [], ◌∷◌, map, Bool, true, false, ◌&&◌, ◌||◌, eqb, leb, length, Option, Some, None}
use Prim.Native.Char.{code}
use Prim.Native.String.{String}
use Rattle.laws.specs.Bytes.{bytes, is_small}
use Rattle.laws.specs.Lists.{all}
use Rattle.laws.specs.Order.{comes_before}

abbrev pub names : List String
names =
    "add_submodel" ∷ "algorithmic_model" ∷ "alternate_package_models" ∷ "bandwidth" ∷ "begin_board_description"
    ∷ "begin_emi_component" ∷ "begin_emi_model" ∷ "c_series" ∷ "cac" ∷ "capacitance_matrix" ∷ "circuit_call"
    ∷ "comment_char" ∷ "component" ∷ "composite_current" ∷ "copyright" ∷ "date" ∷ "define_package_model" ∷ "description"
    ∷ "diff_falling_waveform_far" ∷ "diff_falling_waveform_near" ∷ "diff_pin" ∷ "diff_rising_waveform_far"
    ∷ "diff_rising_waveform_near" ∷ "disclaimer" ∷ "driver_schedule" ∷ "end" ∷ "end_algorithmic_model"
    ∷ "end_alternate_package_models" ∷ "end_board_description" ∷ "end_circuit_call" ∷ "end_emi_component" ∷ "end_emi_model"
    ∷ "end_external_circuit" ∷ "end_external_model" ∷ "end_model_data" ∷ "end_node_declarations" ∷ "end_package_model"
    ∷ "external_circuit" ∷ "external_model" ∷ "external_reference" ∷ "falling_waveform" ∷ "falling_waveform_far"
    ∷ "falling_waveform_near" ∷ "file_name" ∷ "file_rev" ∷ "gnd_clamp" ∷ "gnd_clamp_reference" ∷ "gnd_pulse_table"
    ∷ "ibis_ver" ∷ "inductance_matrix" ∷ "isso_pd" ∷ "isso_pu" ∷ "l_series" ∷ "lc_series" ∷ "manufacturer" ∷ "model"
    ∷ "model_data" ∷ "model_selector" ∷ "model_spec" ∷ "node_declarations" ∷ "notes" ∷ "number_of_pins"
    ∷ "number_of_sections" ∷ "oem" ∷ "off" ∷ "on" ∷ "package" ∷ "package_model" ∷ "path_description" ∷ "pin"
    ∷ "pin_domain_emi" ∷ "pin_emi" ∷ "pin_list" ∷ "pin_mapping" ∷ "pin_numbers" ∷ "power_clamp" ∷ "power_clamp_reference"
    ∷ "power_pulse_table" ∷ "pulldown" ∷ "pulldown_reference" ∷ "pullup" ∷ "pullup_reference" ∷ "r_series" ∷ "rac" ∷ "ramp"
    ∷ "rc_series" ∷ "receiver_thresholds" ∷ "reference_designator_map" ∷ "resistance_matrix" ∷ "rgnd" ∷ "rising_waveform"
    ∷ "rising_waveform_far" ∷ "rising_waveform_near" ∷ "rl_series" ∷ "row" ∷ "rpower" ∷ "series_current" ∷ "series_mosfet"
    ∷ "series_pin_mapping" ∷ "series_switch_groups" ∷ "source" ∷ "submodel" ∷ "submodel_spec" ∷ "temperature_range"
    ∷ "test_data" ∷ "test_load" ∷ "ttgnd" ∷ "ttpower" ∷ "voltage_range" ∷ []

unfoldable pub hierarchy : List (List ℕ)
hierarchy = map bytes names

-- ---- what is asked of such a table

-- small letters and underscores
unfoldable pub is_spelling : ℕ → Bool
is_spelling b = is_small b || eqb b (code "_")

-- one or more of them
unfoldable pub is_spelled : List ℕ → Bool
is_spelled name = leb 1 (length name) && all is_spelling name

-- the name comes before the next one, if there is one
abbrev pub is_ahead : List ℕ → List (List ℕ) → Bool
is_ahead name [] = true
is_ahead name (next ∷ more) = comes_before name next

-- every name is so spelled, and they stand in order: so none stands twice
unfoldable pub is_table : List (List ℕ) → Bool
is_table [] = true
is_table (name ∷ more) = is_spelled name && (is_ahead name more && is_table more)

-- ---- what a search says

abbrev pub is_found : Option ℕ → Bool
is_found (Some k) = true
is_found None = false
