-- What the laws speak of is there, by computing: a row of eight bytes and none of seven, so that eight is the most that can be said; and a file
-- whose rows are read and laid.
use Rattle.std.specs.Prelude.{Ok}
use Prim.Native.Nat.{ℕ}
use Prim.Native.Char.{code}
use Prim.Native.String.{String, ◌++◌ as ◌++ˢ◌}
use mathlib.Core.Path.{◌≡◌, refl}
use mathlib.Core.List.{List}
use mathlib.Core.Bool.{true, false}
use lib.ListN.{length}
use Rattle.laws.specs.Bytes.{bytes}
use Rattle.lines.specs.Lines.{lines_of, fault_from, bytes_fault}
use Rattle.cut_lines.specs.Texts.{texts_from}
use Rattle.rules.specs.Whole.{texts_of}
use Rattle.rules.specs.Reading.{file_in}
use Rattle.rules.specs.declared.Stage.TheVariants.{BeforeVersion}
use Rattle.layout.specs.Laid.{laid}
use Rattle.examples.specs.Computing.{computing}
use Rattle.examples.specs.Starred.{first_section}
use Rattle.room_for_rows.specs.Rows.{is_row, rows_among, rows_read}

-- ---- rows

pub least : is_row (bytes "0 0 0 0") ≡ true
unfolding computing is_row
least = refl

-- six characters and fewer
pub three-words : is_row (bytes "0 0 00") ≡ false
unfolding computing is_row
three-words = refl

pub five-characters : is_row (bytes "0 0 0") ≡ false
unfolding computing is_row
five-characters = refl

-- ---- lines

-- n rows stand in m bytes
pub record Stands (s : List ℕ) (n m : ℕ) : Type 0 where
  pub clean : fault_from 1 (lines_of s) ≡ Ok tt
  pub rows : rows_among (texts_from (code "|") 1 (lines_of s)) ≡ n
  pub size : length s ≡ m

-- in nothing but rows, each of eight bytes
pub tight : Stands (bytes "0 0 0 0\n1 0 0 0\n") 2 16
unfolding computing is_row rows_among
tight = record { clean = refl; rows = refl; size = refl }

-- in lines ended by CR LF, of which the second changes the comment character: a row in a comment is none, nor is one with a `|` behind that line
pub changed : Stands (bytes "|0 0 0 0\r\n[Comment Char] #_char\r\n1 0 0 0|\r\n0 0 0 0#\r\n") 1 53
unfolding computing is_row rows_among
changed = record { clean = refl; rows = refl; size = refl }

-- ---- a file

abbrev file : String → List ℕ
file rows =
    bytes (first_section "1 DOOR in1" "2 VSS GND" ++ˢ "[Model] in1\nModel_type Input\nC_comp 5pF NA NA\n[Voltage Range] 3.3 NA NA\n[GND Clamp]\n" ++ˢ rows ++ˢ "[End]\n")

-- n rows are read, and m rows lie in the tables
pub record Has (s : List ℕ) (n m : ℕ) : Type 0 where
  pub clean : bytes_fault s ≡ Ok tt
  pub read : rows_read BeforeVersion (texts_of s) ≡ n
  pub lie : length (laid (file_in (texts_of s))).rows ≡ m

pub both : Has (file "-1 0 0 0\n0 0 0 0\n") 2 2
unfolding computing rows_read
both = record { clean = refl; read = refl; lie = refl }

-- a file that is refused at its second row, which does not rise
pub up-to-there : Has (file "0 0 0 0\n0 0 0 0\n1 0 0 0\n") 1 3
unfolding computing rows_read
up-to-there = record { clean = refl; read = refl; lie = refl }
