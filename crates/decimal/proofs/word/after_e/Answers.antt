-- `decimal::after_e`: one law where no digit follows, and one where some do.
use Rattle.decimal.proofs.Parts.{exponent-empty, exponent-some}
use Rattle.decimal.proofs.word.after_e.Goals as goal

pub returns-then-digits-first : goal.returns-then-digits-first
returns-then-digits-first c =
    let p = c.requires in
    let s = c.sign_at-sign in
    let d = c.capped_at-digits in
    exponent-empty _ _ p.0 p.1 s.result s.ensures d.result d.ensures c.if-digits-first.true

pub returns : goal.returns
returns c =
    let p = c.requires in
    let s = c.sign_at-sign in
    let d = c.capped_at-digits in
    exponent-some _ _ p.0 p.1 s.result s.ensures d.result d.ensures c.if-digits-first.false
