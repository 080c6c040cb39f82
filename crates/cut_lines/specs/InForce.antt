-- The comment character in force after lines, c being the one before them: a [Comment Char] line without fault sets it.
use Rattle.std.specs.Prelude.{ℕ, List, [], ◌∷◌, cond}
use Rattle.laws.specs.Said.{or_else}
use Rattle.lines.specs.Lines.{Physical}
use Rattle.cut_lines.specs.Change.{is_change, change_of}

unfoldable pub char_after_line : ℕ → Physical → ℕ
char_after_line c l = cond (is_change l.bytes) (or_else c (change_of l.bytes)) c

unfoldable pub char_after_lines : ℕ → List Physical → ℕ
char_after_lines c [] = c
char_after_lines c (l ∷ ls) = char_after_lines (char_after_line c l) ls
