-- Document 02, "Show me the column", on lines as they come to the bench: each is the last of a file and tells its fault, its line and its column.
use Rattle.std.specs.Prelude.{ℕ, List, [], ◌∷◌, map, ◌≡◌, refl, Result, Err}
use Rattle.records.specs.declared.Fault.{Fault}
use Prim.Native.String.{String, ◌++◌}
use Rattle.examples.specs.Computing.{computing}
use Rattle.examples.specs.Starred.{Example, file, answered, first_section, refused_at}

-- fault n at line k, told at column c
abbrev pub told_at : ℕ → ℕ → ℕ → Result (Unit {0}) Fault
told_at n k c = Err (record { number = n; line = k; column = c })

-- a file's lines before the one that is told: a header of three lines, then a section's keyword, then one of its parts
abbrev pub header : String
header = "[IBIS Ver] 5.0\n[File Name] lk.ibs\n[File Rev] 1\n"

abbrev pub component : String
component = header ++ "[Component] LK1\n"

abbrev pub model : String
model = header ++ "[Model] in1\n"

abbrev pub short_pins : String
short_pins = component ++ "[Pin] signal_name model_name\n"

abbrev pub long_pins : String
long_pins = component ++ "[Pin] signal_name model_name R_pin L_pin C_pin\n"

-- this line behind them
abbrev pub under : String → String → Result (Unit {0}) Fault → Example
under before w v = file (before ++ w ++ "\n") v

unfoldable pub columns : List Example
columns =
    under short_pins "1 DOOR" (told_at 10 6 7)
    ∷ under short_pins "1 DOOR in1 x y" (told_at 10 6 12)
    ∷ under short_pins "123456789 DOOR" (told_at 10 6 1)
    ∷ under short_pins "1 DOOR NA x" (told_at 10 6 8)
    ∷ under long_pins "1 a out1 1 NA   | 2p" (told_at 10 6 14)
    ∷ under long_pins "1 a out1 1 1e99 x" (told_at 12 6 12)
    ∷ under component "[Pin] signal_name model_name R_pin" (told_at 10 5 35)
    ∷ under component "[Pin] signal_name model_name x" (told_at 10 5 30)
    ∷ under (component ++ "[Package]\n") "R_pkg 1  2   | 3" (told_at 10 6 11)
    ∷ under (component ++ "[Package]\n") "R_pkg x 1" (told_at 10 6 10)
    ∷ under (component ++ "[Package]\n") "R_pkg 1 2 3  4 5" (told_at 10 6 14)
    ∷ under (component ++ "[Package]\n") "R_pkg=1 NA NA" (told_at 10 6 6)
    ∷ under (component ++ "[Package]\n") "R_pkg= 1 NA NA" (told_at 10 6 6)
    ∷ under (component ++ "[Package]\n") "R_pkg =1 NA NA" (told_at 11 6 7)
    ∷ under (component ++ "[Package]\n") "R_pkg = 1 NA NA" (told_at 10 6 14)
    ∷ under (component ++ "[Package]\n") "\t = 1" (told_at 10 6 3)
    ∷ under model "Vinl" (told_at 10 5 5)
    ∷ under model "Vinl 1" (told_at 10 5 6)
    ∷ under model "Vinl 1 = 2" (told_at 10 5 6)
    ∷ under model "Vinl =" (told_at 10 5 7)
    ∷ under model "Vinl=x" (told_at 11 5 6)
    ∷ under model "Vinl==1" (told_at 11 5 6)
    ∷ under model "Vinl = 1=" (told_at 11 5 8)
    ∷ under model "Vinl = = 1" (told_at 10 5 10)
    ∷ under model "Vinl = 1 = 2" (told_at 10 5 10)
    ∷ under model "Model_type=Input" (told_at 10 5 11)
    ∷ under model "Model_type = Input" (told_at 10 5 12)
    ∷ under (model ++ "[Ramp]\n") "dV/dt_r 1/1n 1/x NA" (told_at 11 6 14)
    ∷ under (model ++ "[Ramp]\n") "dV/dt_r 1 / 1n NA NA" (told_at 10 6 16)
    ∷ under (model ++ "[Pulldown]\n") "0 1 2" (told_at 10 6 6)
    ∷ under (model ++ "[Pulldown]\n") "x" (told_at 10 6 2)
    ∷ under (model ++ "[Rising Waveform]\n") "= 1" (told_at 10 6 4)
    ∷ under header "[Component]  | none" (told_at 10 4 12)
    ∷ under header "[Model] in1 x" (told_at 10 4 13)
    ∷ under header "[Model] NA x" (told_at 10 4 9)
    ∷ under model "[Voltage Range] NA NA NA" (told_at 11 5 17)
    ∷ under (first_section "1 DOOR in1" "2 VSS GND") "[End] x" (told_at 10 13 7)
    ∷ under header "[Comment Char]  " (told_at 10 4 17)
    ∷ under header "[Comment Char] !_char | x" (told_at 10 4 23)
    ∷ under header "[Comment Char] !_char!x" (told_at 10 4 16)
    -- other faults tell none: 5, 7, 8 on a line with a wrong word too, and 13 of a ramp's divisor
    ∷ under header "[Comment Char]x !_char" (refused_at 5 4)
    ∷ under model "R_pkg 1 NA" (told_at 10 5 1)
    ∷ under (model ++ "Vinl = 1\n") "Vinl = x" (refused_at 8 6)
    ∷ under (model ++ "[Ramp]\n") "dV/dt_r 1/0 NA NA" (refused_at 13 6)
    ∷ []

pub examples : map answered columns ≡ columns
unfolding answered columns computing
examples = refl
