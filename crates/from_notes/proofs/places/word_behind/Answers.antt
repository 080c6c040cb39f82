-- Both tests say that the place lies past the end.
use Prim.Native.Nat.{◌+◌}
use native.Mathlib.Omega.{arith}
use Rattle.from_notes.proofs.Words.{word-past}
use Rattle.from_notes.proofs.places.word_behind.Goals as goal

pub returns-then-notes-i : goal.returns-then-notes-i
returns-then-notes-i c = record {
  value = word-past c.args.notes.now (c.args.from + c.args.i) (omega arith);
  upper_bound = omega arith;
}

pub returns-then-notes-i-2 : goal.returns-then-notes-i-2
returns-then-notes-i-2 c = record {
  value = word-past c.args.notes.now (c.args.from + c.args.i) (omega arith);
  upper_bound = omega arith;
}
