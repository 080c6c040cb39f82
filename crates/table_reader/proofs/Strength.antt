-- Two readings into words that the promise allows are equal: the answer, and every table; and two listings.
use Prim.Native.Nat.{ℕ}
use mathlib.Core.Path.{◌≡◌, sym, ◌∙◌}
use mathlib.Core.List.{List}
use Rattle.records.specs.declared.Answer.{Answer}
use Rattle.table_words.specs.Packed.{WordTables, ListTables}
use Rattle.table_reader.specs.ReadInWords.{ReadInWords}
use Rattle.table_reader.specs.Listed.{Lists}

pub one : (s : List ℕ) (t : WordTables) (a b : Answer) (u v : WordTables) → ReadInWords s t a u → ReadInWords s t b v → (a ≡ b) × (u ≡ v)
one s t a b u v x y = (x.answer ∙ sym y.answer, x.tables ∙ sym y.tables)

pub one-listing : (s : List ℕ) (t : ListTables) (a b : Answer) (u v : ListTables) → Lists s t a u → Lists s t b v → (a ≡ b) × (u ≡ v)
one-listing s t a b u v x y = (x.answer ∙ sym y.answer, x.tables ∙ sym y.tables)
