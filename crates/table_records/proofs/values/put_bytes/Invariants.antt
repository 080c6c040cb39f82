-- The first i bytes are those of the text.
use mathlib.Core.Path.{◌≡◌}
use lib.ListN.{take}
use Rattle.laws.specs.Eights.{bytes_from}
use Rattle.table_records.proofs.values.put_bytes.Given as goal

abbrev pub invariant-loop-i : goal.invariant-loop-i
invariant-loop-i l = take l.i l.out ≡ bytes_from l.words l.i
