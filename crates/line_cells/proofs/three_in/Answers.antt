-- Too few words by `words-under`.
use mathlib.Core.Path.{◌∙◌}
use native.Mathlib.Omega.{arith}
use Rattle.words.proofs.Chains.{link, done, words-under}
use Rattle.line_cells.proofs.Laws.{rest-gone}
use Rattle.line_cells.proofs.three_in.Goals as goal

pub returns-then-w-c : goal.returns-then-w-c
returns-then-w-c c =
    let k = link c.word_at-a.ensures (link c.word_at-b.ensures done) in
    let d = c.word_at-c.ensures in
    record {
      count = λ e. omega (arith, words-under k d c.if-w-c.true);
      rest = c.word_at-a.ensures.next 2 ∙ c.word_at-b.ensures.next 1 ∙ rest-gone d c.if-w-c.true;
      within = omega (arith, d.starts, d.ends);
    }
