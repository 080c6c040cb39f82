-- Two readings that the promise to C allows are equal: the fault, the words of the answer, and every table.
use Prim.Native.Nat.{ℕ}
use mathlib.Core.Path.{◌≡◌, sym, ◌∙◌}
use mathlib.Core.List.{List}
use Rattle.table_words.specs.Packed.{WordTables}
use Rattle.olhovest.specs.Exported.{Exports}

pub one : (s : List ℕ) (t : WordTables) (n m : ℕ) (a b : List ℕ) (u v : WordTables) → Exports s t n a u → Exports s t m b v → (n ≡ m) × ((a ≡ b) × (u ≡ v))
one s t n m a b u v x y = (x.number ∙ sym y.number, (x.words ∙ sym y.words, x.tables ∙ sym y.tables))
