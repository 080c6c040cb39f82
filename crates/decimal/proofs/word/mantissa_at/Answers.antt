-- `decimal::mantissa_at`: one law with a point, and one without, whether the word ends or another byte stands there.
use Rattle.decimal.proofs.Parts.{places-end, places-none, mantissa-plain, mantissa-point}
use Rattle.decimal.proofs.word.mantissa_at.Goals as goal
use Rattle.decimal.proofs.word.mantissa_at.Goals.{then-point-w+else-w-point-eq46, else-point-w}

pub returns-then-w-point-eq46 : goal.returns-then-w-point-eq46
returns-then-w-point-eq46 c =
    let d = c.digits_at-whole in
    let g = c.digits_at-all in
    mantissa-point _ _ d.result d.ensures g.result c.if-point-w.true c.if-w-point-eq46.true g.ensures

pub returns : goal.returns
returns c =
    let d = c.digits_at-whole in
    elim c.if-point-w.branch [
      | then-point-w+else-w-point-eq46 w ↦ mantissa-plain _ _ d.result d.ensures (places-none _ _ w.if-point-w.true w.if-w-point-eq46.false)
      | else-point-w w ↦ mantissa-plain _ _ d.result d.ensures (places-end _ _ w.if-point-w.false)
    ]
