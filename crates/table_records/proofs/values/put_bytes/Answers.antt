-- A byte more at a turn: `bytes-turn`.
use mathlib.Core.Path.{refl}
use native.Mathlib.Omega.{arith}
use Rattle.laws.specs.Eights.{bytes_from}
use Rattle.laws.proofs.Eights.{bytes-turn}
use Rattle.table_records.proofs.values.put_bytes.Goals as goal

pub loop-i-init : goal.loop-i-init
unfolding bytes_from
loop-i-init c = refl

pub loop-i-preserved : goal.loop-i-preserved
loop-i-preserved c = bytes-turn c.args.words.now c.loop-i.out c.loop-i.i c.byte_in.result (omega arith) c.loop-i.invariant c.byte_in.ensures
