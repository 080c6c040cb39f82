-- The key of what is left, from the key so far, is the key of all.
use mathlib.Core.Path.{◌∙◌}
use native.Mathlib.Omega.{arith}
use Rattle.name_checks.proofs.ClashLaws.{key-next, key-end}
use Rattle.name_checks.proofs.keys.name_key.Goals as goal

pub loop-b-preserved : goal.loop-b-preserved
loop-b-preserved c = rw c.from.ensures (key-next c.loop-b.key c.args.name.now c.loop-b.b-index c.loop-b-test.true ∙ c.loop-b.invariant)

pub returns : goal.returns
returns c = key-end c.loop-b.key c.args.name.now c.loop-b.b-index (omega arith) ∙ c.loop-b.invariant
