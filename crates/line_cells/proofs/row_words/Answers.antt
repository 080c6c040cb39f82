-- Too few words by `words-under`, too many by `words-past`, else just four by `words-just`.
use mathlib.Core.Path.{◌∙◌}
use native.Mathlib.Omega.{arith}
use Rattle.words.proofs.Chains.{link, done, words-under, words-past, words-just}
use Rattle.line_cells.proofs.Laws.{rest-gone, three-from}
use Rattle.line_cells.proofs.Rows.{row_other, row-worded}
use Rattle.line_cells.proofs.row_words.Goals as goal

pub returns-then-w-d : goal.returns-then-w-d
returns-then-w-d c =
    let a = c.word_at-a.ensures in
    let b = c.word_at-b.ensures in
    let d = c.word_at-c.ensures in
    let e = c.word_at-d.ensures in
    c.amiss_at.ensures
    ∙ row_other _ _ (λ q. omega (arith, words-under (link a (link b (link d done))) e c.if-w-d.true, q)) (a.next 3 ∙ b.next 2 ∙ d.next 1 ∙ rest-gone e c.if-w-d.true) (omega (arith, e.starts, e.ends))

pub returns-then-fifth-w : goal.returns-then-fifth-w
returns-then-fifth-w c =
    let a = c.word_at-a.ensures in
    let b = c.word_at-b.ensures in
    let d = c.word_at-c.ensures in
    let e = c.word_at-d.ensures in
    let f = c.word_at-fifth.ensures in
    c.amiss_at-then-fifth-w.ensures
    ∙ row_other _ _ (λ q. omega (arith, words-past (link a (link b (link d (link e done)))) f c.if-fifth-w.true, q)) (a.next 3 ∙ b.next 2 ∙ d.next 1 ∙ e.next 0 ∙ f.here) (omega (arith, f.starts, f.ends))

pub returns : goal.returns
returns c =
    let a = c.word_at-a.ensures in
    let b = c.word_at-b.ensures in
    let d = c.word_at-c.ensures in
    let e = c.word_at-d.ensures in
    let f = c.word_at-fifth.ensures in
    c.row_from.ensures
    ∙ row-worded a (words-just (link a (link b (link d done))) e c.if-w-d.false f c.if-fifth-w.false) (three-from b d e c.if-w-d.false f c.if-fifth-w.false)
    (cc) (cc) (cc) (cc)
