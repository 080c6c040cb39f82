-- The line as a person sees it: safe for a screen, and a mark under the column told.
use Rattle.std.specs.Prelude.{ℕ, zero, suc, List, [], ◌∷◌, ◌++◌, map, cond, eqb, ltb, length, take}
use Prim.Native.Char.{code}
use Rattle.laws.specs.Bytes.{bytes}
use Rattle.lines.specs.Lines.{Physical, is_allowed}
use Rattle.refusal_text.specs.declared.shown.Showing.{Showing}
use Rattle.refusal_text.specs.declared.shown.Showing.TheVariants.{Plainly, AsBlank}

-- a byte that document 01 forbids is a question mark
unfoldable pub visible : ℕ → ℕ
visible b = cond (is_allowed b) b (code "?")

-- a blank as wide: a tab for a tab
unfoldable pub blank_for : ℕ → ℕ
blank_for b = cond (eqb b (code "\t")) b (code " ")

abbrev pub shown_as : Showing → ℕ → ℕ
shown_as Plainly b = visible b
shown_as AsBlank b = blank_for b

-- what stands past the 120th character is two points
unfoldable pub visible_text : List ℕ → List ℕ
visible_text l = cond (ltb 120 (length l)) (map visible (take 120 l) ++ bytes "..") (map visible l)

-- under the character at a column, from 1; column 0 is none
unfoldable pub mark_text : List ℕ → ℕ → List ℕ
mark_text l zero = []
mark_text l (suc n) = bytes "  " ++ map blank_for (take n l) ++ bytes "^\n"

-- a line, and the mark under it
unfoldable pub marked_text : ℕ → List ℕ → List ℕ
marked_text column l = bytes "> " ++ visible_text l ++ bytes "\n" ++ mark_text l column

-- the first of these lines
abbrev pub first_text : ℕ → List Physical → List ℕ
first_text column [] = []
first_text column (l ∷ ls) = marked_text column l.bytes
