-- Document 01, "Lines and words": lines, the bytes allowed in them, and cutting; and faults 1 to 4.
use Rattle.std.specs.Prelude.{ℕ, ◌+◌, List, [], ◌∷◌, Bool, true, false, cond, ◌&&◌, ◌||◌, length, eqb, leb, Result, Ok, Err}
use Rattle.records.specs.declared.Fault.{Fault}
use Prim.Native.Char.{code}
use Rattle.laws.specs.Bytes.{is_blank}
use Rattle.laws.specs.Lists.{front, trim, all, other}

-- the bytes of a line without its end, and whether an end follows
pub record Physical : Type 0 where
  pub bytes : List ℕ
  pub ended : Bool

-- a CR with an LF straight after it: a part of the line's end
unfoldable pub is_return : ℕ → List ℕ → Bool
is_return b [] = false
is_return b (x ∷ xs) = eqb b (code "\r") && eqb x (code "\n")

-- the byte goes in front of the first line
unfoldable pub onto_line : ℕ → List Physical → List Physical
onto_line b [] = record { bytes = b ∷ []; ended = false } ∷ []
onto_line b (l ∷ ls) = record { bytes = b ∷ l.bytes; ended = l.ended } ∷ ls

-- a line is ended by LF or CR LF
unfoldable pub lines_of : List ℕ → List Physical
lines_of [] = []
lines_of (b ∷ bs) =
    cond (eqb b (code "\n")) (record { bytes = []; ended = true } ∷ lines_of bs)
    (cond (is_return b bs) (lines_of bs)
    (onto_line b (lines_of bs)))

-- ---- faults 1 to 4

-- bytes allowed: hex 20 to 7E, tab
unfoldable pub is_allowed : ℕ → Bool
is_allowed b = leb 0x20 b && leb b 0x7E || eqb b (code "\t")

-- 2 forbidden byte, 3 line over 120, 4 line not ended, in that order; 0 no fault
unfoldable pub line_fault : Physical → ℕ
line_fault l =
    cond (all is_allowed l.bytes) (cond (leb (length l.bytes) 120) (cond l.ended 0 4) 3) 2

-- the first line with a fault; the lines are numbered from k on
unfoldable pub fault_from : ℕ → List Physical → Result (Unit {0}) Fault
fault_from k [] = Ok tt
fault_from k (l ∷ ls) =
    cond (eqb (line_fault l) 0) (fault_from (k + 1) ls) (Err (record { number = line_fault l; line = k; column = 0 }))

-- 1 over 65,536 bytes, told at line 0; then 2, 3, 4 over all lines
unfoldable pub bytes_fault : List ℕ → Result (Unit {0}) Fault
bytes_fault s = cond (leb (length s) 65536) (fault_from 1 (lines_of s)) (Err (record { number = 1; line = 0; column = 0 }))

-- ---- cutting

-- a line is cut at its first comment character c, then its trailing blanks are cut
unfoldable pub cut : ℕ → List ℕ → List ℕ
cut c l = trim is_blank (front (other c) l)
