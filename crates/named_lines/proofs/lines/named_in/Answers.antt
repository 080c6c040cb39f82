-- The name looked up is the line's.
use Prim.Native.Nat.{ℕ}
use mathlib.Core.Path.{ap, ◌∙◌}
use mathlib.Core.List.{List}
use Rattle.name_table.specs.Names.{place_from}
use Rattle.name_table.specs.Listed.{names_in}
use Rattle.named_lines.proofs.lines.named_in.Goals as goal

pub slice_bounds-place-start : goal.slice_bounds-place-start
slice_bounds-place-start c = c.name_of-name.ensures.starts

pub slice_bounds-place-end : goal.slice_bounds-place-end
slice_bounds-place-end c = c.name_of-name.ensures.ends

pub returns : goal.returns
returns c = c.place.ensures ∙ ap (λ (x : List ℕ). place_from 0 x (names_in c.args.list)) c.name_of-name.ensures.text
