-- The keywords so far and their words: `fills-key` at a turn, `walks-end` and `walks-out` at the end.
use Prim.Native.Nat.{◌-◌}
use lib.ListN.{length}
use Rattle.section_words.proofs.Fills.{Fills}
use Rattle.section_words.proofs.models.fill_body.Given as goal

abbrev pub invariant-loop-keyword : goal.invariant-loop-keyword
invariant-loop-keyword l = Fills l.src l.initial.d l.d l.row l.place l.initial.model l.model l.initial.waveforms l.waveforms l.waves l.initial.rows l.rows l.words

abbrev pub decreases-loop-keyword : goal.decreases-loop-keyword
decreases-loop-keyword l = length l.src - l.d.at
