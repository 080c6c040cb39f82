-- The cells of a pin are fair.
use Prim.Native.Nat.{ℕ}
use mathlib.Core.List.{List}
use lib.ListN.{length}
use lib.Dec.{eqb}
use Rattle.words.specs.Words.{words}
use Rattle.decimal.specs.Decimal.{cell_of}
use Rattle.line_rules.proofs.Columns.{cell-columns}
use Rattle.line_rules.proofs.Fair.{Fair, value, either-fair, cells-fair}
use Rattle.rules.specs.Component.{pin_cells}

pub pin-cells-fair : (v : List ℕ) → Fair (pin_cells v)
unfolding pin_cells
pin-cells-fair v = either-fair (eqb (length (words v)) 0) value (cells-fair cell_of cell-columns v)
