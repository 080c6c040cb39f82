-- What a word or a line says, or its fault.
use Rattle.std.specs.Prelude.{ℕ, Result, Ok, Err, Option, None, Some}

-- of a word: the number of its fault
abbrev pub Said : Type 0 → Type 0
Said A = Result A ℕ

-- its fault; 0 for none
abbrev pub fault_in : {A : Type 0} → Said A → ℕ
fault_in (Ok a) = 0
fault_in (Err n) = n

-- what it says, or else a
abbrev pub or_else : {F A : Type 0} → A → Result A F → A
or_else a (Ok b) = b
or_else a (Err f) = a

-- its fault, or what `go` makes of what it says
abbrev pub read_on : {F A B : Type 0} → Result A F → (A → Result B F) → Result B F
read_on (Ok a) go = go a
read_on (Err f) go = Err f

-- nothing is fault f
abbrev pub or_fault : {F A : Type 0} → F → Option A → Result A F
or_fault f None = Err f
or_fault f (Some a) = Ok a
