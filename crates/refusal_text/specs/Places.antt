-- Where a line of a file lies, and what cutting leaves of it.
use Rattle.std.specs.Prelude.{ℕ, zero, suc, ◌≤◌, ◌≡◌, List, [], ◌∷◌, cond, eqb, length, drop}
use Rattle.laws.specs.Lists.{part}
use Rattle.words.specs.declared.Word.{Word}
use Rattle.lines.specs.Lines.{Physical, lines_of}
use Rattle.lines.specs.Places.{first_bytes, line_from}
use Rattle.cut_lines.specs.Texts.{Text, plain, change}
use Rattle.cut_lines.specs.Cursors.{first_cursor, rest}

-- where a reader stands that has handed out so many lines: past the last line, at the file's end
unfoldable pub place_behind : List ℕ → ℕ → ℕ
place_behind s zero = 0
place_behind s (suc n) = (line_from s (place_behind s n)).next

-- a text of line n of a file, from 1 on; nothing where there is no such line
abbrev pub of_line : (List Physical → List ℕ) → List ℕ → ℕ → List ℕ
of_line text s zero = []
of_line text s (suc n) = text (drop n (lines_of s))

-- the text with a number among the texts of a file. On a [Comment Char] line nothing is cut: its text is the whole line
unfoldable pub text_in : ℕ → List ℕ → List Text → List ℕ
text_in n whole [] = []
text_in n whole (plain k w ∷ ts) = cond (eqb k n) w (text_in n whole ts)
text_in n whole (change k f ∷ ts) = cond (eqb k n) whole (text_in n whole ts)

-- what cutting leaves of line n, where the comment character is the one in force there
unfoldable pub text_of_line : List ℕ → ℕ → List ℕ
text_of_line s n = text_in n (of_line first_bytes s n) (rest s first_cursor)

-- a text lies between two places
pub record Lies (s text : List ℕ) (r : Word) : Type 0 where
  pub is : part r.start r.end s ≡ text
  pub starts : r.start ≤ r.end
  pub ends : r.end ≤ length s
