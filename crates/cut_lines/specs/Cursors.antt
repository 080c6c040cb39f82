-- What the cursors and places that the code answers say of the texts.
use Rattle.std.specs.Prelude.{ℕ, ◌+◌, ◌≤◌, ◌<◌, ◌≡◌, List, [], ◌∷◌, length, drop, Ok}
use Prim.Native.Char.{code}
use Rattle.laws.specs.Lists.{part}
use Rattle.records.specs.declared.LineFault.{LineFault}
use Rattle.lines.specs.Lines.{lines_of, fault_from}
use Rattle.cut_lines.specs.Texts.{Text, plain, change, texts_from}
use Rattle.cut_lines.specs.declared.Cursor.{Cursor}
use Rattle.cut_lines.specs.declared.Next.{Next}
use Rattle.cut_lines.specs.declared.Next.TheVariants as next

-- the comment character is `|` until changed
abbrev pub first_cursor : Cursor
first_cursor = record { at = 0; line = 1; comment = code "|" }

-- the texts from a cursor on, and the number of the line after the last
unfoldable pub rest : List ℕ → Cursor → List Text
rest s c = texts_from c.comment c.line (lines_of (drop c.at s))

unfoldable pub past : List ℕ → Cursor → ℕ
past s c = c.line + length (lines_of (drop c.at s))

-- no line from a cursor on has a fault of its bytes
abbrev pub CleanFrom : List ℕ → Cursor → Type 0
CleanFrom s c = fault_from c.line (lines_of (drop c.at s)) ≡ Ok tt

-- ---- what the code's answers are

-- a cursor that stands in a file: every line before it has at least one byte
pub record Placed (s : List ℕ) (c : Cursor) : Type 0 where
  pub within : c.at ≤ length s
  pub lines : c.line ≤ c.at + 1

-- a text's cursor: the next one stands behind it, and the file ends at the same line
pub record Goes (s : List ℕ) (c n : Cursor) : Type 0 where
  pub placed : Placed s n
  pub rises : c.at < n.at
  pub ends : past s c ≡ past s n
  pub clean : CleanFrom s c → CleanFrom s n

pub record TextIs (s : List ℕ) (c : Cursor) (k a e : ℕ) (n : Cursor) : Type 0 where
  pub more : rest s c ≡ plain k (part a e s) ∷ rest s n
  -- the same texts from the line's own place on
  pub here : rest s (record { at = a; line = k; comment = n.comment }) ≡ plain k (part a e s) ∷ rest s n
  pub goes : Goes s c n
  pub line : n.line ≡ k + 1
  pub from : c.at ≤ a
  pub lines : k ≤ a + 1
  pub place : past s c ≡ k + length (lines_of (drop a s))
  pub short : CleanFrom s c → e ≤ a + 120
  pub starts : a < e
  pub fits : e ≤ length s

pub record ChangeIs (s : List ℕ) (c : Cursor) (k : ℕ) (f : LineFault) (n : Cursor) : Type 0 where
  pub more : rest s c ≡ change k f ∷ rest s n
  pub goes : Goes s c n

pub record OutIs (s : List ℕ) (c : Cursor) (k : ℕ) : Type 0 where
  pub more : rest s c ≡ []
  pub ends : k ≡ past s c

-- either the list of texts is empty, or it is the text handed out and then the texts from the next cursor on
abbrev pub NextIs : List ℕ → Cursor → Next → Type 0
NextIs s c (next.Text k a e n) = TextIs s c k a e n
NextIs s c (next.Change k f n) = ChangeIs s c k f n
NextIs s c (next.Out k) = OutIs s c k
