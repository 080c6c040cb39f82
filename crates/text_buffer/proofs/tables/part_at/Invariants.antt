-- The texts that are left from here on are those that are left of all: `parts-turn` at a turn, `part-here` and `part-past` at the ways out.
use Prim.Native.Nat.{◌-◌}
use mathlib.Core.Path.{◌≡◌}
use lib.ListN.{length, drop}
use Rattle.text_buffer.specs.Parts.{parts, start_from}
use Rattle.text_buffer.proofs.tables.part_at.Given as goal

abbrev pub invariant-loop-start : goal.invariant-loop-start
invariant-loop-start l = (drop l.left (parts l.separator (drop l.start l.table)) ≡ drop l.place (parts l.separator l.table)) × (start_from l.separator l.table l.start l.left ≡ start_from l.separator l.table 0 l.place)

abbrev pub decreases-loop-start : goal.decreases-loop-start
decreases-loop-start l = length l.table - l.start
