-- The first k words are those of the first k eights of bytes.
use mathlib.Core.Path.{◌≡◌}
use lib.ListN.{length, take}
use Rattle.record_words.specs.Records.{eights}
use Rattle.record_words.proofs.tables.laid_words.Given as goal

abbrev pub invariant-loop-k : goal.invariant-loop-k
invariant-loop-k g l = (length l.words ≡ g.row.WORDS) × (take l.k l.words ≡ eights l.t.bytes l.k)
