-- `decimal::exponent_at`: with no e there is no exponent; after an e `after_e` answers.
use mathlib.Core.Logic.{inl, inr}
use Rattle.decimal.proofs.Parts.{e-end, e-none, e-here, exponent-none}
use Rattle.decimal.proofs.word.exponent_at.Goals as goal

pub returns-then-w-at : goal.returns-then-w-at
returns-then-w-at c = exponent-none _ _ c.requires (e-end _ _ c.if-w-at.true)

pub after_e-requires : goal.after_e-requires
after_e-requires c =
    let h = c.if-w-at.false in
    (h, e-here _ _ h c.in-101.is)

pub returns-in_default : goal.returns-in_default
returns-in_default c =
    exponent-none _ _ c.requires
    (e-none _ _ c.if-w-at.false (λ e. c.in_default.in_default-own.rest.1 (inl e)) (λ e. c.in_default.in_default-own.rest.1 (inr e)))
