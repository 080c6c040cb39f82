-- What a table's fill asks and leaves, and the element of the notes.
use Prim.Native.Nat.{ℕ}
use mathlib.Core.List.{List}
use mir.Syntax.{w16}
use Rattle.table_walks.proofs.Elem.{Data, Elem, of_number, number-elem}

-- the element of the notes
abbrev note : Data
note = of_number w16

note-elem : Elem note
note-elem = number-elem w16

-- a table's fill: what it asks, and what it leaves in the table
pub record Filling (o e : Data) : Type 2 where
  pub asks : List ℕ → List ℕ → o.D → List e.D → Type 0
  pub left : List ℕ → List ℕ → o.D → List e.D → List e.D

-- the same of three tables that are filled together
pub record FillingThree (o e₁ e₂ e₃ : Data) : Type 2 where
  pub asks : List ℕ → List ℕ → o.D → List e₁.D → List e₂.D → List e₃.D → Type 0
  pub Left : List ℕ → List ℕ → o.D → List e₁.D → List e₂.D → List e₃.D → List e₁.D → List e₂.D → List e₃.D → Type 0
