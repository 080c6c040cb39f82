-- Document 01, "Strength of each contract": "Try these: a reader that refuses all files, one that accepts all with empty tables, one that writes
-- nothing, one that reads the first section and pretends for the rest, one that makes up its counts of rows."
use Rattle.std.specs.Prelude.{ℕ, ◌≡◌, true, List, [], ◌∷◌, ◌++◌, Ok, Err}
use Prim.Native.Char.{code}
use Rattle.lines.specs.Lines.{Physical, lines_of}
use Rattle.cut_lines.specs.InForce.{char_after_lines}
use Rattle.demand_three.specs.Lines.{sections_on, begins_another}
use Rattle.notes.specs.Noted.{nothing_used}
use Rattle.records.specs.declared.Fault.{Fault}
use Rattle.records.specs.Bounds.{most_rows}
use Rattle.records.specs.declared.Answer.{Answer}
use Rattle.records.specs.declared.Lending.{Lending}
use Rattle.records.specs.declared.Model.{Model}
use Rattle.reader.specs.Promise.{Lent, lending_in, Reads}
use Rattle.examples.specs.Starred.{at_bounds}

-- ---- a reader, and what it promises

-- what it answers to a file if tables are lent, and how it leaves them
pub record Reader : Type 0 where
  pub answers : List ℕ → Lent → Answer
  pub leaves : List ℕ → Lent → Lent

-- the promise of `read`, for any bytes and any tables: demands 1 and 2
abbrev pub KeepsPromise : Reader → Type 0
KeepsPromise p = (s : List ℕ) (t : Lent) → Reads s t (p.answers s t) (p.leaves s t)

-- ---- tables that are lent: as long as document 01's bounds, and as many rows as a file can have

abbrev pub all_lent : Lending
all_lent = record { tables = at_bounds; rows = most_rows }

abbrev pub AtBounds : Lent → Type 0
AtBounds t = lending_in t ≡ all_lent

-- the length of the first model's name
abbrev pub name_length : List Model → ℕ
name_length [] = 0
name_length (m ∷ ms) = m.name.len

-- ---- what each cheat does in one call: r is what it answers, t the tables as they were lent, u as it leaves them

-- a fault is told, whichever
pub record Refuses (r : Answer) : Type 0 where
  pub fault : Fault
  pub told : r.verdict ≡ Err fault

pub record AcceptsEmpty (r : Answer) : Type 0 where
  pub accepted : r.verdict ≡ Ok tt
  pub empty : r.counts ≡ nothing_used

abbrev pub WritesNothing : Lent → Lent → Type 0
WritesNothing t u = u ≡ t

-- the models come after the first section: their table is left as it was ..
abbrev pub SkipsModels : Lent → Lent → Type 0
SkipsModels t u = u.models ≡ t.models

-- .. or all is as for another file, which says something else after its first section
abbrev pub Pretends : List ℕ → Lent → Answer → Lent → Type 0
Pretends other t r u = Reads other t r u

-- the file has that many rows, all in its first model's [GND Clamp]; another number is told of the file, or of that table
abbrev pub clamp_rows : List Model → ℕ
clamp_rows [] = 0
clamp_rows (m ∷ ms) = m.ground.rows.count

pub data MakesUpRows (rows : ℕ) (r : Answer) (u : Lent) : Type 0 where
  of_file : (r.counts.rows ≡ rows → ⊥) → MakesUpRows rows r u
  of_table : (clamp_rows u.models ≡ rows → ⊥) → MakesUpRows rows r u

-- ---- the readers that do so always

abbrev pub RefusesAll : Reader → Type 0
RefusesAll p = (s : List ℕ) (t : Lent) → Refuses (p.answers s t)

abbrev pub AcceptsAllEmpty : Reader → Type 0
AcceptsAllEmpty p = (s : List ℕ) (t : Lent) → AcceptsEmpty (p.answers s t)

abbrev pub NeverWrites : Reader → Type 0
NeverWrites p = (s : List ℕ) (t : Lent) → WritesNothing t (p.leaves s t)

-- the lines of two files are the same up to the end of the first section
pub record SameFirst (s other : List ℕ) : Type 0 where
  pub first : List Physical
  pub rest : List Physical
  pub rest_too : List Physical
  pub lines : lines_of s ≡ first ++ rest
  pub lines_too : lines_of other ≡ first ++ rest_too
  pub one_section : sections_on (code "|") first ≡ 1
  pub ends : begins_another (char_after_lines (code "|") first) rest ≡ true
  pub ends_too : begins_another (char_after_lines (code "|") first) rest_too ≡ true

-- files with the same first section are told apart neither by the answer nor by the tables
abbrev pub ReadsFirstOnly : Reader → Type 0
ReadsFirstOnly p =
    (s other : List ℕ) → SameFirst s other → (t : Lent) → (p.answers s t ≡ p.answers other t) × (p.leaves s t ≡ p.leaves other t)

-- the number of rows told of an accepted file does not come from the file
pub record MakesUpAllRows (p : Reader) : Type 0 where
  pub number : Lent → ℕ
  pub told : (s : List ℕ) (t : Lent) → (p.answers s t).verdict ≡ Ok tt → (p.answers s t).counts.rows ≡ number t

-- ---- "Demand 2 shuts out all five"

pub record ShutsOut (p : Reader) : Type 0 where
  pub refuses_all : RefusesAll p → ⊥
  pub accepts_all_empty : AcceptsAllEmpty p → ⊥
  pub never_writes : NeverWrites p → ⊥
  pub reads_first_only : ReadsFirstOnly p → ⊥
  pub makes_up_all_rows : MakesUpAllRows p → ⊥
