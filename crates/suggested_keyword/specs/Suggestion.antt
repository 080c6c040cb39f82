-- The keyword that a person may have meant by one that nobody has: the nearest of the hierarchy, if one is within two letters.
use Rattle.std.specs.Prelude.{ℕ, List, [], ◌∷◌, ◌++◌, map, Option, Some, None}
use Prim.Native.String.{String}
use Rattle.laws.specs.Bytes.{bytes}
use Rattle.words.specs.Words.{word}
use Rattle.near_names.specs.Near.{nearest}
use Rattle.hierarchy.specs.Hierarchy.{hierarchy}
use Rattle.keywords.specs.Form.{inside, spelled}

-- the keywords as section 3a of source document 000 writes them, in the order of `hierarchy`
abbrev pub written : List String
written =
    "Add Submodel" ∷ "Algorithmic Model" ∷ "Alternate Package Models" ∷ "Bandwidth" ∷ "Begin Board Description"
    ∷ "Begin EMI Component" ∷ "Begin EMI Model" ∷ "C Series" ∷ "Cac" ∷ "Capacitance Matrix" ∷ "Circuit Call"
    ∷ "Comment Char" ∷ "Component" ∷ "Composite Current" ∷ "Copyright" ∷ "Date" ∷ "Define Package Model" ∷ "Description"
    ∷ "Diff Falling Waveform Far" ∷ "Diff Falling Waveform Near" ∷ "Diff Pin" ∷ "Diff Rising Waveform Far"
    ∷ "Diff Rising Waveform Near" ∷ "Disclaimer" ∷ "Driver Schedule" ∷ "End" ∷ "End Algorithmic Model"
    ∷ "End Alternate Package Models" ∷ "End Board Description" ∷ "End Circuit Call" ∷ "End EMI Component" ∷ "End EMI Model"
    ∷ "End External Circuit" ∷ "End External Model" ∷ "End Model Data" ∷ "End Node Declarations" ∷ "End Package Model"
    ∷ "External Circuit" ∷ "External Model" ∷ "External Reference" ∷ "Falling Waveform" ∷ "Falling Waveform Far"
    ∷ "Falling Waveform Near" ∷ "File Name" ∷ "File Rev" ∷ "GND Clamp" ∷ "GND Clamp Reference" ∷ "GND Pulse Table"
    ∷ "IBIS Ver" ∷ "Inductance Matrix" ∷ "ISSO PD" ∷ "ISSO PU" ∷ "L Series" ∷ "Lc Series" ∷ "Manufacturer" ∷ "Model"
    ∷ "Model Data" ∷ "Model Selector" ∷ "Model Spec" ∷ "Node Declarations" ∷ "Notes" ∷ "Number Of Pins"
    ∷ "Number Of Sections" ∷ "OEM" ∷ "Off" ∷ "On" ∷ "Package" ∷ "Package Model" ∷ "Path Description" ∷ "Pin"
    ∷ "Pin Domain EMI" ∷ "Pin EMI" ∷ "Pin List" ∷ "Pin Mapping" ∷ "Pin Numbers" ∷ "POWER Clamp" ∷ "POWER Clamp Reference"
    ∷ "POWER Pulse Table" ∷ "Pulldown" ∷ "Pulldown Reference" ∷ "Pullup" ∷ "Pullup Reference" ∷ "R Series" ∷ "Rac" ∷ "Ramp"
    ∷ "Rc Series" ∷ "Receiver Thresholds" ∷ "Reference Designator Map" ∷ "Resistance Matrix" ∷ "Rgnd" ∷ "Rising Waveform"
    ∷ "Rising Waveform Far" ∷ "Rising Waveform Near" ∷ "Rl Series" ∷ "Row" ∷ "Rpower" ∷ "Series Current" ∷ "Series MOSFET"
    ∷ "Series Pin Mapping" ∷ "Series Switch Groups" ∷ "Source" ∷ "Submodel" ∷ "Submodel Spec" ∷ "Temperature Range"
    ∷ "Test Data" ∷ "Test Load" ∷ "TTgnd" ∷ "TTpower" ∷ "Voltage Range" ∷ []

unfoldable pub written_names : List (List ℕ)
written_names = map bytes written

-- what is asked of a name whose nearest stands at a place
unfoldable pub question : ℕ → List ℕ
question k = bytes " Did you mean [" ++ word k written_names ++ bytes "]?"

abbrev pub asked : Option ℕ → List ℕ
asked None = []
asked (Some k) = question k

-- of a line that begins with a keyword in brackets
unfoldable pub suggestion : List ℕ → List ℕ
suggestion line = asked (nearest (spelled (inside line)) hierarchy)
