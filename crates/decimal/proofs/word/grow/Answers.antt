-- `decimal::grow`: one ten more.
use Rattle.decimal.proofs.Capped.{grow-turn}
use Rattle.decimal.proofs.word.grow.Goals as goal

pub loop-preserved : goal.loop-preserved
loop-preserved c = grow-turn _ _ _ _ _ c.loop.invariant c.push-grown.ensures
