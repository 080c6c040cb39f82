-- The keywords so far and those from this cursor on are those from the first: `walks-key` at a turn, `walks-found` behind a waveform, `walks-end` and `walks-out` at the end.
use Prim.Native.Nat.{◌-◌}
use lib.ListN.{length}
use Rattle.model_record.proofs.Walks.{Walks}
use Rattle.model_record.proofs.bodies.take_keys.Given as goal

abbrev pub invariant-loop-keyword : goal.invariant-loop-keyword
invariant-loop-keyword l = Walks l.src l.initial.d l.d l.initial.body l.body l.initial.rows l.rows l.words

abbrev pub decreases-loop-keyword : goal.decreases-loop-keyword
decreases-loop-keyword l = length l.src - l.d.at
