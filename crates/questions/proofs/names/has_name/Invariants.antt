-- Equality from i on is equality of all: `same-go` at a turn; the ways out are another length, `same-differ` and `same_end`.
use Prim.Native.Nat.{ℕ}
use mathlib.Core.Path.{◌≡◌}
use mathlib.Core.List.{List, map}
use lib.ListN.{length, drop}
use Rattle.laws.specs.Eights.{bytes_from}
use Rattle.laws.specs.Lists.{eqs}
use Rattle.table_records.specs.Records.{name_from}
use Rattle.questions.specs.Named.{is_named}
use Rattle.questions.proofs.names.has_name.Given as goal

abbrev pub kept : ℕ → ℕ
kept b = b

-- the name's bytes, as many as there are of those that it is compared with
abbrev pub text : List ℕ → List ℕ → List ℕ
text words name = bytes_from words (length name)

abbrev pub invariant-loop-i : goal.invariant-loop-i
invariant-loop-i l = eqs (map kept (drop l.i (text l.words l.name))) (drop l.i l.name) ≡ is_named (name_from l.words) l.name
