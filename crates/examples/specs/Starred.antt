-- Document 01, "Bench examples": the starred ones, and more words that are easy to get wrong, as one list. Each example holds what is
-- asked and what the paper answers; `answered` asks the definitions again, and one computation shows that nothing changes.
use Rattle.std.specs.Prelude.{ℕ, ◌+◌, ◌-◌, List, [], ◌∷◌, ◌++◌, map, ◌≡◌, refl, true, false, replicate, Ok, Err, Result}
use Prim.Native.Char.{code}
use Prim.Native.String.{String, ◌++◌ as ◌++ˢ◌}
use Rattle.laws.specs.Bytes.{bytes}
use Rattle.laws.specs.Said.{Said}
use Rattle.decimal.specs.Decimal.{number_of, cell_of, offset}
use Rattle.lines.specs.Lines.{bytes_fault}
use Rattle.rules.specs.Whole.{Outcome, passed, refused, outcome}
use Rattle.decimal.specs.declared.Decimal.{Decimal}
use Rattle.decimal.specs.declared.Cell.{Cell}
use Rattle.decimal.specs.declared.Cell.TheVariants.{Number, Missing}
use Rattle.records.specs.declared.Lengths.{Lengths}
use Rattle.records.specs.declared.Fault.{Fault}
use Rattle.examples.specs.Computing.{computing}

-- refused with fault n at line k, with no column
abbrev pub refused_at : ℕ → ℕ → Result (Unit {0}) Fault
refused_at n k = Err (record { number = n; line = k; column = 0 })

abbrev pub verdict : Outcome → Result (Unit {0}) Fault
verdict (passed h) = Ok tt
verdict (refused n k c) = Err (record { number = n; line = k; column = c })

abbrev pub at_bounds : Lengths
at_bounds = record { components = 8; pins = 512; selectors = 32; choices = 256; models = 64; waveforms = 1024 }

-- the listing's file up to the end of its first section, with its line 11 and 12; and the whole, with its line 14 too
abbrev pub first_section : String → String → String
first_section eleven twelve =
    "[IBIS Ver] 5.0\n[File Name] lk.ibs\n[File Rev] 1\n[Component] LK1\n[Manufacturer] House\n[Package]\nR_pkg 250m NA NA\nL_pkg 15nH NA NA\nC_pkg 18pF NA NA\n[Pin] signal_name model_name\n"
    ++ˢ eleven ++ˢ "\n" ++ˢ twelve ++ˢ "\n"

abbrev pub listing : String → String → String → String
listing eleven twelve fourteen =
    first_section eleven twelve ++ˢ "[Model] in1\n" ++ˢ fourteen ++ˢ "\nC_comp 5pF NA NA\n[Voltage Range] 3.3 NA NA\n[End]\n"

pub data Example : Type 0 where
  -- a word as a number, and as a cell
  number : String → Said Decimal → Example
  cell : String → Said Cell → Example
  -- a file of one line, with so many characters before its LF
  line : ℕ → Result (Unit {0}) Fault → Example
  -- a file, checked for tables at their bounds
  file : String → Result (Unit {0}) Fault → Example

unfoldable pub answered : Example → Example
answered (number w r) = number w (number_of (bytes w))
answered (cell w r) = cell w (cell_of (bytes w))
answered (file s r) = file s (verdict (outcome at_bounds (bytes s)))
answered (line n r) = line n (bytes_fault (replicate n (code "x") ++ (code "\n" ∷ [])))

infix 70 ◌e+◌ ◌e-◌
-- digits and power, as the paper writes them: `18 e- 12` is its "18, −12"
abbrev pub ◌e+◌ : ℕ → ℕ → Said Decimal
n e+ k = Ok (record { negative = false; digits = n; power = offset + k })

abbrev pub ◌e-◌ : ℕ → ℕ → Said Decimal
n e- k = Ok (record { negative = false; digits = n; power = offset - k })

unfoldable pub starred : List Example
starred =
    number "18.0pF" (18 e- 12)
    ∷ number "250.0m" (25 e- 2)
    ∷ number "-0.0" (0 e+ 0)
    ∷ number "5F" (5 e+ 0)
    ∷ number "5f" (5 e- 15)
    ∷ number "1.2e3m" (12 e- 1)
    ∷ number "1e" (1 e+ 0)
    ∷ number "1e+" (Err 11)
    ∷ number "1234567890123450" (123456789012345 e+ 1)
    ∷ number "1234567890123456" (Err 12)
    ∷ number "1e24" (1 e+ 24)
    ∷ number "1e25" (Err 12)
    ∷ number "0e99" (0 e+ 0)
    ∷ line 120 (Ok tt)
    ∷ line 121 (Err (record { number = 3; line = 1; column = 0 }))
    ∷ file "" (refused_at 19 1)
    -- not starred
    ∷ file (listing "1 DOOR in1" "2 VSS GND" "Model_type Input") (Ok tt)
    ∷ file (listing "1 DOOR in1" "2 VSS GND" "Model_type Output") (refused_at 9 13)
    ∷ file (listing "1 DOOR in1" "2 VSS GNDX" "Model_type Input") (refused_at 15 12)
    ∷ file (listing "1 DOOR GND" "2 VSS GND" "Model_type Input") (refused_at 16 13)
    -- document 02's two keywords, of the hierarchy and not
    ∷ file "[IBIS Ver] 5.0\n[Diff Pin]\n" (refused_at 6 2)
    ∷ file "[IBIS Ver] 5.0\n[Diff Pni]\n" (refused_at 21 2)
    -- numbers that are easy to get wrong
    ∷ number "1e-40" (1 e- 40)
    ∷ number "1e-41" (Err 12)
    ∷ number "10e24" (Err 12)
    ∷ number "10e-41" (1 e- 40)
    ∷ number "0.1e25" (1 e+ 24)
    ∷ number "1e39f" (1 e+ 24)
    ∷ number "1e5e" (1 e+ 5)
    ∷ number "1ek" (1 e+ 0)
    ∷ number "1M" (1 e+ 6)
    ∷ number "1k5" (Err 11)
    ∷ number "." (Err 11)
    ∷ number "5." (5 e+ 0)
    ∷ number "+.5" (5 e- 1)
    ∷ number "--1" (Err 11)
    ∷ number "-2.5" (Ok (record { negative = true; digits = 25; power = offset - 1 }))
    ∷ number "NA" (Err 11)
    ∷ cell "NA" (Ok Missing)
    ∷ cell "na" (Ok Missing)
    ∷ cell "nA" (Ok Missing)
    ∷ cell "NAx" (Err 11)
    ∷ cell "0" (Ok (Number (record { negative = false; digits = 0; power = offset })))
    ∷ []

pub examples : map answered starred ≡ starred
unfolding answered starred computing
examples = refl
