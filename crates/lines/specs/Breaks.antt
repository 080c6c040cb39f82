-- How many bytes of a line's end begin a list.
use Rattle.std.specs.Prelude.{ℕ, List, [], ◌∷◌, cond, eqb}
use Prim.Native.Char.{code}
use Rattle.lines.specs.Lines.{is_return}

-- 1 for LF, 2 for CR LF, else 0
unfoldable pub break_of : List ℕ → ℕ
break_of [] = 0
break_of (b ∷ bs) = cond (eqb b (code "\n")) 1 (cond (is_return b bs) 2 0)
