-- The digits of what is left go before those that were found.
use Prim.Native.Nat.{ℕ}
use mathlib.Core.Path.{◌≡◌, refl, sym, ap, ◌∙◌}
use lib.ListN.{drop, length-set}
use native.Mathlib.Omega.{arith}
use Rattle.text_buffer.specs.Numerals.{numeral_of}
use Rattle.text_buffer.proofs.NumeralLaws.{last-digit, next-digit, no_digit}
use Rattle.text_buffer.proofs.numbers.digits_of.Goals as goal

pub loop-first-init : goal.loop-first-init
unfolding numeral_of
loop-first-init c = (refl, refl)

pub returns-then-rest-eq0 : goal.returns-then-rest-eq0
returns-then-rest-eq0 c = record { digits = rw c.digit_of.ensures (last-digit c.loop-first.first c.loop-first.rest c.loop-first.bytes c.loop-first-test.true (omega arith) c.if-rest-eq0.true ∙ c.loop-first.invariant.1); first = omega arith; room = length-set c.loop-first.bytes _ _ ∙ c.loop-first.invariant.0 }

pub loop-first-preserved : goal.loop-first-preserved
loop-first-preserved c = (length-set c.loop-first.bytes _ _ ∙ c.loop-first.invariant.0, rw c.digit_of.ensures (next-digit c.loop-first.first c.loop-first.rest c.loop-first.bytes c.loop-first-test.true (omega arith) c.if-rest-eq0.false ∙ c.loop-first.invariant.1))

pub returns : goal.returns
returns c =
    let l = c.loop-first in
    let z : l.first ≡ 0 = omega arith in
    record { digits = ap (λ (k : ℕ). drop k l.bytes) (sym z) ∙ no_digit l.first l.rest l.bytes (omega arith) ∙ l.invariant.1; first = omega arith; room = l.invariant.0 }
