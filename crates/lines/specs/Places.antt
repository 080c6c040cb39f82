-- What the places that the code answers say of the lines.
use Rattle.std.specs.Prelude.{ℕ, ◌+◌, ◌-◌, ◌≤◌, ◌<◌, min, ◌≡◌, List, [], ◌∷◌, length, drop, Result, Err, Ok}
use Rattle.records.specs.declared.Fault.{Fault}
use Prim.Native.Char.{code}
use Rattle.laws.specs.Lists.{front, other, part}
use Rattle.lines.specs.Lines.{Physical, lines_of, fault_from, cut}
use Rattle.lines.specs.declared.Line.{Line}
use Rattle.lines.specs.declared.CutLine.{CutLine}
use Rattle.lines.specs.declared.LineReader.{LineReader}

-- what the faults from here on are, once the line here is looked at
abbrev pub checked : List ℕ → ℕ → Result ℕ ℕ → Result (Unit {0}) Fault
checked s k (Ok n) = fault_from (k + 1) (lines_of (drop n s))
checked s k (Err f) = Err (record { number = f; line = k; column = 0 })

abbrev pub Goes : List ℕ → ℕ → Result ℕ ℕ → Type 0
Goes s at (Ok n) = (at < n) × (n ≤ length s)
Goes s at (Err f) = Unit {0}

-- the bytes of the first line, without its end; none where there is no line
unfoldable pub first_bytes : List Physical → List ℕ
first_bytes [] = []
first_bytes (l ∷ ls) = l.bytes

-- how many bytes the first line takes: up to the first LF, and with it
unfoldable pub extent : List ℕ → ℕ
extent s = min (length (front (other (code "\n")) s) + 1) (length s)

-- where the line at a place ends, and where the next begins; past the last line both are the place
unfoldable pub line_from : List ℕ → ℕ → Line
line_from s at = record { end = at + length (first_bytes (lines_of (drop at s))); next = at + extent (drop at s) }

-- the line at a place, whole, and where it ends once it is cut at the comment character c
unfoldable pub cut_from : List ℕ → ℕ → ℕ → CutLine
cut_from s at c = record { whole = line_from s at; cut = at + length (cut c (part at (line_from s at).end s)) }

-- the first LF from a place on, or the end
abbrev pub line_stop : List ℕ → ℕ → ℕ
line_stop s at = at + length (front (other (code "\n")) (drop at s))

-- the first LF or comment character c from a place on, or the end
abbrev pub text_stop : List ℕ → ℕ → ℕ → ℕ
text_stop s at c = at + min (length (front (other (code "\n")) (drop at s))) (length (front (other c) (drop at s)))

-- the number of the line that begins at a place: the number past the last line, less the lines that are left
unfoldable pub line_at : List ℕ → ℕ → ℕ
line_at s at = 1 + length (lines_of s) - length (lines_of (drop at s))

-- a reader behind the line that it handed out
abbrev pub reader_behind : LineReader → Line → LineReader
reader_behind r l = record { src = r.src; at = l.next }

-- The first of the lines from `at` on lies from there to end, without its line's end; the others begin at next.
pub record RawAt (s : List ℕ) (at : ℕ) (r : Line) : Type 0 where
  pub line : Physical
  pub more : lines_of (drop at s) ≡ line ∷ lines_of (drop r.next s)
  pub text : part at r.end s ≡ line.bytes
  pub starts : at ≤ r.end
  pub ends : r.end ≤ length s
  pub rises : at < r.next
  pub within : r.next ≤ length s
