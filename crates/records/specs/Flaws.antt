-- What is at fault on a line, and the column that is told of it.
use Rattle.std.specs.Prelude.{ℕ, ◌+◌, ◌-◌, List, [], cond, ◌&&◌, length, eqb, leb, Result, Ok, Err}
use Rattle.records.specs.declared.Fault.{Fault}
use Rattle.records.specs.declared.LineFault.{LineFault}

-- the number of a fault, and the rest of the line from the first character at fault on: nothing where a word is missing
pub record Flaw : Type 0 where
  pub number : ℕ
  pub rest : List ℕ

abbrev pub flaw : ℕ → List ℕ → Flaw
flaw n r = record { number = n; rest = r }

-- nothing is at fault
abbrev pub sound : Flaw
sound = flaw 0 []

-- what a line or a part of it says, or its flaw
abbrev pub Reads : Type 0 → Type 0
Reads A = Result A Flaw

-- its flaw
abbrev pub flaw_in : {A : Type 0} → Reads A → Flaw
flaw_in (Ok a) = sound
flaw_in (Err f) = f

-- a fault of the word that the rest r begins with is told there
abbrev pub said_at : {A : Type 0} → List ℕ → Result A ℕ → Reads A
said_at r (Ok a) = Ok a
said_at r (Err n) = Err (flaw n r)

-- document 02: "Faults 10, 11 and 12 are to tell the column, counted from 1, of the first character of the leftmost word at fault; where a word is
-- missing, the column after the last character left by the cutting"; "All other faults tell column 0"
unfoldable pub column_in : List ℕ → Flaw → ℕ
column_in w f = cond (leb 10 f.number && leb f.number 12) (length w - length f.rest + 1) 0

-- what the line w tells of a flaw
abbrev pub told : List ℕ → Flaw → LineFault
told w f = record { number = f.number; column = column_in w f }

-- the same, with what is told for the flaw
abbrev pub told_in : {A : Type 0} → List ℕ → Reads A → Result A LineFault
told_in w (Ok a) = Ok a
told_in w (Err f) = Err (told w f)

-- a fault that tells no column
abbrev pub bare : ℕ → LineFault
bare n = record { number = n; column = 0 }

-- what a check answers: the fault that it tells, or nothing where that has number 0
abbrev pub checked : LineFault → Result (Unit {0}) LineFault
checked f = cond (eqb f.number 0) (Ok tt) (Err f)

-- a line's fault, told at line k
abbrev pub at_line : ℕ → LineFault → Fault
at_line k f = record { number = f.number; line = k; column = f.column }

-- what line k says, or its fault, told there
abbrev pub checked_at : {A : Type 0} → ℕ → Result A LineFault → Result A Fault
checked_at k (Ok a) = Ok a
checked_at k (Err f) = Err (at_line k f)

-- what is told at a place of the line, also by what the word there says; and what is told where the line says something
abbrev pub at_place : ℕ → ℕ → LineFault
at_place n p = record { number = n; column = p + 1 }

abbrev pub said_there : {A : Type 0} → ℕ → Result A ℕ → Result A LineFault
said_there p (Ok a) = Ok a
said_there p (Err n) = Err (at_place n p)

abbrev pub line_fault_in : {A : Type 0} → Result A LineFault → LineFault
line_fault_in (Ok a) = bare 0
line_fault_in (Err f) = f
