-- `decimal::plain_at`: the invariant is `Goes`, with one law for a digit and one for the end. What is no digit is far from "0".
use native.Mathlib.Omega.{arith}
use Rattle.laws.specs.Bytes.{is_digit}
use Rattle.laws.proofs.Fronts.{front-end, front-stop}
use Rattle.decimal.proofs.Parts.{goes-digit, goes_end, goes-fits, far_from_0, near-0}
use Rattle.decimal.proofs.word.plain_at.Goals as goal

pub overflow_mul-read : goal.overflow_mul-read
overflow_mul-read c =
    omega (arith, goes-fits _ _ _ _ _ c.loop-i.invariant c.requires.1 c.loop-i-test.true)

pub overflow_add-read : goal.overflow_add-read
overflow_add-read c =
    omega (arith, c.if-digit-gt9.false, goes-fits _ _ _ _ _ c.loop-i.invariant c.requires.1 c.loop-i-test.true)

pub loop-i-preserved : goal.loop-i-preserved
loop-i-preserved c =
    let d = near-0 _ (c.type_inv.w c.loop-i.i).fits c.if-digit-gt9.false in
    rw d.2 (goes-digit _ _ _ _ _ c.loop-i.invariant c.loop-i-test.true (omega (arith, d.0)) (omega (arith, d.1)))

pub returns-after-loop-i : goal.returns-after-loop-i
returns-after-loop-i c = goes_end _ _ _ _ _ c.loop-i.invariant (front-end is_digit _ _ c.loop-i-test.false)

pub returns-then-digit-gt9 : goal.returns-then-digit-gt9
returns-then-digit-gt9 c =
    goes_end _ _ _ _ _ c.loop-i.invariant
    (front-stop is_digit _ _ 0 c.loop-i-test.true (far_from_0 _ (c.type_inv.w c.loop-i.i).fits c.if-digit-gt9.true))
