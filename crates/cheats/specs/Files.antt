-- The files on which the cheating readers are caught: document 01's own, and three that differ from it in a few lines.
use Rattle.std.specs.Prelude.{ℕ, List}
use Prim.Native.String.{String, ◌++◌ as ◌++ˢ◌}
use Rattle.laws.specs.Bytes.{bytes}
use Rattle.examples.specs.Starred.{first_section, listing}

-- document 01's file: a component with two pins, then a model; no rows
abbrev pub listed : List ℕ
listed = bytes (listing "1 DOOR in1" "2 VSS GND" "Model_type Input")

-- "With `GNDX` in line 12: `NO 15 12`"
abbrev pub misnamed : List ℕ
misnamed = bytes (listing "1 DOOR in1" "2 VSS GNDX" "Model_type Input")

-- the file up to the end of its first section, then another model of that name
abbrev pub followed : String → List ℕ
followed rest = bytes (first_section "1 DOOR in1" "2 VSS GND" ++ˢ rest)

-- C_comp of 6pF, where document 01's file has 5pF
abbrev pub altered : List ℕ
altered = followed "[Model] in1\nModel_type Input\nC_comp 6pF NA NA\n[Voltage Range] 3.3 NA NA\n[End]\n"

-- a table of two rows
abbrev pub clamped : List ℕ
clamped = followed "[Model] in1\nModel_type Input\nC_comp 5pF NA NA\n[Voltage Range] 3.3 NA NA\n[GND Clamp]\n-1 -50mA NA NA\n0 0 NA NA\n[End]\n"
