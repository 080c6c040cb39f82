-- From place k on the search finds what it finds from the start.
use Prim.Native.Nat.{◌/◌}
use lib.ListN.{length}
use Rattle.record_words.specs.Records.{component_size}
use Rattle.questions.specs.Searched.{component_there, in_span}
use Rattle.questions.proofs.Laws.{Seeks}
use Rattle.questions.proofs.searches.component_with.Given as goal

abbrev pub invariant-loop-k : goal.invariant-loop-k
invariant-loop-k l = Seeks (λ k. in_span (component_there l.components k).pins l.pin) 0 (length l.components / component_size) l.k
