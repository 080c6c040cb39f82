-- From place i on the search finds what it finds from the start.
use lib.ListN.{drop}
use Rattle.table_records.specs.Values.{record_at}
use Rattle.table_records.specs.Records.{name_from}
use Rattle.questions.specs.Named.{is_named}
use Rattle.questions.proofs.Laws.{Seeks}
use Rattle.questions.proofs.searches.first_named.Given as goal

abbrev pub invariant-loop-i : goal.invariant-loop-i
invariant-loop-i l = Seeks (λ k. is_named (name_from (drop l.word (record_at l.size l.table k))) l.name) l.from l.n l.i
