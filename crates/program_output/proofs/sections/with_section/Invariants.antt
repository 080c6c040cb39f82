-- From place i on the search finds what it finds from the start.
use Prim.Native.Nat.{ℕ}
use mathlib.Core.Bool.{Bool}
use mathlib.Core.List.{List}
use lib.Dec.{eqb}
use Rattle.table_records.specs.Values.{record_at, number_at}
use Rattle.questions.proofs.Laws.{Seeks}
use Rattle.program_output.proofs.sections.with_section.Given as goal

abbrev pub test : ℕ → List ℕ → ℕ → ℕ → Bool
test size table k i = eqb (number_at (record_at size table i) 0) k

abbrev pub invariant-loop-i : goal.invariant-loop-i
invariant-loop-i l = Seeks (test l.size l.table l.k) 0 l.n l.i
