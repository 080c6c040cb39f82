-- `decimal::sign_at`: one law for each way out.
use native.Mathlib.Omega.{arith}
use Rattle.decimal.proofs.Parts.{sign-end, sign-plus, sign-minus, sign-none}
use Rattle.decimal.proofs.word.sign_at.Goals as goal

pub returns-then-w-at : goal.returns-then-w-at
returns-then-w-at c = sign-end _ _ c.if-w-at.true c.requires

pub returns-then-byte-gt45 : goal.returns-then-byte-gt45
returns-then-byte-gt45 c = sign-none _ _ c.if-w-at.false (λ e. omega arith) (λ e. omega arith)

pub returns-in-43 : goal.returns-in-43
returns-in-43 c = sign-plus _ _ c.if-w-at.false c.in-43.is

pub returns-in-45 : goal.returns-in-45
returns-in-45 c = sign-minus _ _ c.if-w-at.false c.in-45.is

pub returns-in_default : goal.returns-in_default
returns-in_default c = sign-none _ _ c.if-w-at.false c.in_default.in_default-own.rest.0.1 c.in_default.in_default-own.rest.1
