-- `decimal::with_exponent`: the laws of `number_of` of a short word; a size too large goes to `any_number`.
use Prim.Native.Nat.{ℕ, ◌<◌}
use mathlib.Core.Path.{◌≡◌, sym, ◌∙◌}
use native.Mathlib.Omega.{arith}
use Rattle.laws.proofs.Tests.{cond_yes, cond_no}
use Rattle.decimal.proofs.Results.{number-bad, scale-up-small, scale-down-small}
use Rattle.decimal.proofs.Settled.{number_short}
use Rattle.decimal.proofs.with_exponent.Goals as goal

some-digits : (count : ℕ) → 0 < count → count ≡ 0 → ⊥
some-digits count h z = omega arith

pub returns-then-not-letters_from : goal.returns-then-not-letters_from
returns-then-not-letters_from c =
    let p = c.requires in
    let e = c.exponent_at-exponent in
    let l = c.letters_from in
    sym (number-bad _ _ p.sign _ p.mantissa.spans (some-digits _ p.some) e.result e.ensures
    (sym l.ensures ∙ c.if-not-letters_from.true))

pub overflow_add-up : goal.overflow_add-up
overflow_add-up c = omega (arith, scale-up-small _ _ c.scale_up-up.ensures)

pub overflow_add-down : goal.overflow_add-down
overflow_add-down c =
    let p = c.requires in
    omega (arith, scale-down-small _ _ c.scale_down.ensures, p.mantissa.spans.short, p.few)

pub overflow_add-down-then-exponent : goal.overflow_add-down-then-exponent
overflow_add-down-then-exponent c =
    let p = c.requires in
    omega (arith, scale-down-small _ _ c.scale_down.ensures, c.if-size-gt-LOWEST.false, p.mantissa.spans.short, p.few)

pub settle-requires : goal.settle-requires
settle-requires c =
    let p = c.requires in
    let u = scale-up-small _ _ c.scale_up-up.ensures in
    let d = scale-down-small _ _ c.scale_down.ensures in
    (p.mantissa.small, omega (arith, u), omega (arith, d, c.if-size-gt-LOWEST.false, p.mantissa.spans.short, p.few))

pub returns-then-exponent : goal.returns-then-exponent
returns-then-exponent c =
    let p = c.requires in
    let e = c.exponent_at-exponent in
    let l = c.letters_from in
    let u = c.scale_up-up in
    let d = c.scale_down in
    let t = c.if-exponent.true in
    number_short _ p.few _ p.sign _ p.mantissa (some-digits _ p.some) e.result e.ensures
    (sym l.ensures ∙ c.if-not-letters_from.false)
    u.result d.result u.ensures d.ensures _ _
    (omega (arith, cond_yes 0 e.result.size t)) (omega (arith, cond_yes e.result.size 0 t)) _ c.settle.ensures

pub overflow_add-up-2 : goal.overflow_add-up-2
overflow_add-up-2 c = omega (arith, scale-up-small _ _ c.scale_up-up.ensures, c.if-size-gt-LOWEST.false)

pub settle-requires-2 : goal.settle-requires-2
settle-requires-2 c =
    let p = c.requires in
    let u = scale-up-small _ _ c.scale_up-up.ensures in
    let d = scale-down-small _ _ c.scale_down.ensures in
    (p.mantissa.small, omega (arith, u, c.if-size-gt-LOWEST.false), omega (arith, d, p.mantissa.spans.short, p.few))

pub returns : goal.returns
returns c =
    let p = c.requires in
    let e = c.exponent_at-exponent in
    let l = c.letters_from in
    let u = c.scale_up-up in
    let d = c.scale_down in
    let t = c.if-exponent.false in
    number_short _ p.few _ p.sign _ p.mantissa (some-digits _ p.some) e.result e.ensures
    (sym l.ensures ∙ c.if-not-letters_from.false)
    u.result d.result u.ensures d.ensures _ _
    (omega (arith, cond_no 0 e.result.size t)) (omega (arith, cond_no e.result.size 0 t)) _ c.settle-2.ensures
