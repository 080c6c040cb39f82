-- Files as suppliers reissue them, quite different to look at, each pair with one list: a pair that is accepted, and pairs that are refused at different lines.
use Rattle.std.specs.Prelude.{ℕ, ◌≡◌, List, [], ◌∷◌, ◌++◌, cond}
use Prim.Native.String.{String, ◌++◌ as ◌++ˢ◌}
use Rattle.laws.specs.Bytes.{bytes}
use Rattle.records.specs.Bounds.{most_rows}
use Rattle.records.specs.declared.Lending.{Lending}
use Rattle.cut_lines.specs.Change.{is_change}
use Rattle.rules.specs.Whole.{Held, passed, refused, loading}
use Rattle.examples.specs.Starred.{at_bounds}
use Rattle.remarks.specs.Counted.{list_of}
use Rattle.remarks.specs.Alike.{Alike, SameTables, SameFault}
use Rattle.remarks.specs.Edits.{Edited}

-- ---- the files

-- lines as a file: each is ended by LF, or by CR LF where it has the CR
abbrev pub file : List String → List ℕ
file [] = []
file (l ∷ ls) = bytes (l ++ˢ "\n") ++ file ls

-- as issued, without remarks, with this line for C_comp and these last lines
abbrev pub issued : String → List String → List ℕ
issued capacitance last =
    file
    ("[IBIS Ver] 5.0"
    ∷ "[File Name] lk.ibs"
    ∷ "[File Rev] 1"
    ∷ "[Comment Char] !_char"
    ∷ "[Component] LK1"
    ∷ "[Manufacturer] House"
    ∷ "[Package]"
    ∷ "R_pkg 1 NA NA"
    ∷ "L_pkg 1 NA NA"
    ∷ "C_pkg 1 NA NA"
    ∷ "[Pin] signal_name model_name"
    ∷ "1 DOOR in1"
    ∷ "[Model] in1"
    ∷ "Model_type Input"
    ∷ capacitance
    ∷ "[Voltage Range] 3.3 NA NA"
    ∷ "[GND Clamp]"
    ∷ "-1 -50mA NA NA"
    ∷ "0 0 NA NA"
    ∷ last)

-- as reissued: remarks, some of which look like lines of the form, blank lines, blanks at line ends, and CR LF here and there
abbrev pub reissued : String → List String → List ℕ
reissued capacitance last =
    file
    ("| The lock of the door, second issue\r"
    ∷ "\r"
    ∷ "[IBIS Ver] 5.0 | not 4.2\r"
    ∷ "[File Name] lk.ibs\t"
    ∷ "[File Rev] 1| [Component] LK0"
    ∷ "[comment_char]   !_char ! from here on | is text"
    ∷ "! [End]"
    ∷ "[Component] LK1   ! the lock\r"
    ∷ "[Manufacturer] House"
    ∷ " \t \r"
    ∷ "[Package]"
    ∷ "R_pkg 1 NA NA! NA"
    ∷ "L_pkg 1 NA NA !!"
    ∷ "C_pkg 1 NA NA \r"
    ∷ "[Pin] signal_name model_name ! R_pin"
    ∷ "! 2 LAMP in1"
    ∷ "1 DOOR in1 ! 2 3 4"
    ∷ "[Model] in1\t! a pad"
    ∷ "Model_type Input"
    ∷ ""
    ∷ capacitance
    ∷ "[Voltage Range] 3.3 NA NA"
    ∷ "[GND Clamp]"
    ∷ "-1 -50mA NA NA\r"
    ∷ "! -0.5 -20mA NA NA\r"
    ∷ "0 0 NA NA ! and no more"
    ∷ last)

-- as much is lent as a file can need
abbrev pub enough : Lending
enough = record { tables = at_bounds; rows = most_rows }

-- ---- what is told of a pair

pub record BothAccepted (s t : List ℕ) : Type 0 where
  pub alike : Alike s t
  pub held : Held
  pub held_too : Held
  pub passes : loading enough s ≡ passed held
  pub passes_too : loading enough t ≡ passed held_too
  pub tables : SameTables s t

-- with fault n and column c, at line j and at line k
pub record BothRefused (s t : List ℕ) (n j k c : ℕ) : Type 0 where
  pub alike : Alike s t
  pub told : loading enough s ≡ refused n j c
  pub told_too : loading enough t ≡ refused n k c
  pub fault : SameFault s t n j c n k c

abbrev pub Accepted : Type 0
Accepted = BothAccepted (issued "C_comp 5pF NA NA" ("[End]" ∷ [])) (reissued "C_comp 5pF NA NA  ! 4pF" ("[End]  " ∷ "" ∷ "! [End]" ∷ []))

-- a word is missing: 10, told behind the last one, not where the remark begins
abbrev pub WordMissing : Type 0
WordMissing = BothRefused (issued "C_comp 5pF NA" ("[End]" ∷ [])) (reissued "C_comp 5pF NA  ! NA" ("[End]" ∷ [])) 10 15 21 14

-- C_comp is missing: 9, told at [Model]
abbrev pub PartMissing : Type 0
PartMissing = BothRefused (issued "" ("[End]" ∷ [])) (reissued "! C_comp 5pF NA NA" ("[End]" ∷ [])) 9 13 18 0

-- [End] is missing: 19, told behind the last line
abbrev pub EndMissing : Type 0
EndMissing = BothRefused (issued "C_comp 5pF NA NA" []) (reissued "C_comp 5pF NA NA" ("" ∷ "! [End]" ∷ [])) 19 20 29 0

-- ---- one edit: a remark put behind the text of a line
abbrev pub Annotated : Type 0
Annotated = Edited (issued "C_comp 5pF NA NA" ("[End]" ∷ [])) (issued "C_comp 5pF NA NA ! measured in May" ("[End]" ∷ []))

-- ---- why a [Comment Char] line is in the list: files that differ in one alone, of which one is accepted and the other refused

abbrev pub without_changes : List (List ℕ) → List (List ℕ)
without_changes [] = []
without_changes (w ∷ ws) = cond (is_change w) (without_changes ws) (w ∷ without_changes ws)

pub record ChangeCounts (s t : List ℕ) (n k : ℕ) : Type 0 where
  pub alike_without : without_changes (list_of s) ≡ without_changes (list_of t)
  pub held : Held
  pub passes : loading enough s ≡ passed held
  pub told : loading enough t ≡ refused n k 0

-- before [IBIS Ver] it is 7
abbrev pub ChangeFirst : Type 0
ChangeFirst =
    ChangeCounts (issued "C_comp 5pF NA NA" ("[End]" ∷ [])) (file ("[Comment Char] #_char" ∷ []) ++ issued "C_comp 5pF NA NA" ("[End]" ∷ [])) 7 1
