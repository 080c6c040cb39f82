-- Behind the last place of four words there is nothing.
use Prim.Native.Nat.{◌+◌, ◌*◌}
use native.Mathlib.Omega.{arith}
use Rattle.note_words.specs.Store.{words_per_row}
use Rattle.from_notes.proofs.Words.{word-past}
use Rattle.from_notes.proofs.places.row_word.Goals as goal

pub returns-then-notes-i : goal.returns-then-notes-i
returns-then-notes-i c =
    let a = c.args in
    record {
      value = word-past a.notes.now (a.from + words_per_row * a.i + a.j) (omega arith);
      upper_bound = omega arith;
    }
