-- The lines of cells put one behind the other, by induction over the cells.
use Prim.Native.Nat.{ℕ}
use mathlib.Core.Path.{◌≡◌, refl, sym, ap, ◌∙◌}
use mathlib.Core.List.{List, [], ◌∷◌, ◌++◌, append_assoc}
use Rattle.decimal.specs.declared.Cell.{Cell}
use Rattle.double_text.specs.Lines.{cell_line, cell_lines}

pub lines_append : (xs ys : List Cell) → cell_lines (xs ++ ys) ≡ cell_lines xs ++ cell_lines ys
unfolding cell_lines
lines_append [] ys = refl
lines_append (x ∷ xs) ys = ap (λ (t : List ℕ). cell_line x ++ t) (lines_append xs ys) ∙ sym (append_assoc (cell_line x) (cell_lines xs) (cell_lines ys))
