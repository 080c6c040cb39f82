-- `decimal::short_mantissa_at`: one law with a point, and one without, whether the word ends or another byte stands there.
use Rattle.decimal.proofs.Capped.{ten-pos}
use Rattle.decimal.proofs.Parts.{places-end, places-none, short-plain, short-point}
use Rattle.decimal.proofs.word.short_mantissa_at.Goals as goal
use Rattle.decimal.proofs.word.short_mantissa_at.Goals.{then-point-w+else-w-point-eq46, else-point-w}

pub plain_at-whole-requires : goal.plain_at-whole-requires
plain_at-whole-requires c = (c.requires.0, c.requires.1, ten-pos _)

pub returns-then-w-point-eq46 : goal.returns-then-w-point-eq46
returns-then-w-point-eq46 c =
    let d = c.plain_at-whole in
    let g = c.plain_at-all in
    short-point _ _ c.requires.1 d.result d.ensures g.result c.if-point-w.true c.if-w-point-eq46.true g.ensures

pub returns : goal.returns
returns c =
    let d = c.plain_at-whole in
    elim c.if-point-w.branch [
      | then-point-w+else-w-point-eq46 w ↦ short-plain _ _ c.requires.1 d.result d.ensures (places-none _ _ w.if-point-w.true w.if-w-point-eq46.false)
      | else-point-w w ↦ short-plain _ _ c.requires.1 d.result d.ensures (places-end _ _ w.if-point-w.false)
    ]
