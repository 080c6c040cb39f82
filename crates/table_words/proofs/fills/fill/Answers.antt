-- A record a turn: `words-turn`.
use mathlib.Core.Path.{refl, ◌∙◌}
use native.Mathlib.Omega.{arith}
use Rattle.table_words.proofs.Laws.{words-none, words-turn}
use Rattle.table_words.proofs.fills.fill.Goals as goal

pub loop-k-init : goal.loop-k-init
loop-k-init g c = (refl, λ f each told. words-none f c.args.out.now)

pub loop-k-preserved : goal.loop-k-preserved
loop-k-preserved g c =
    let l = c.loop-k in
    (omega arith, λ f each told. c.put.ensures ∙ words-turn f g.row.SIZE each c.args.out.now l.out l.k c.args.n (l.invariant.1 f each told) c.requires.room c.words.result c.loop-k-test.true (c.words.ensures ∙ told l.k c.made.result c.loop-k-test.true c.made.ensures))
