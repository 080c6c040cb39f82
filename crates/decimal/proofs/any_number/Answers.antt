-- `decimal::any_number`: the laws of `number_of` from what its parts say. A slice has fewer than 2 ^ 63 bytes, so no sum wraps.
use mathlib.Core.Path.{sym, ◌∙◌}
use native.Mathlib.Omega.{arith}
use Rattle.decimal.proofs.Results.{number-none, number-bad, number-good, scale-up-small, scale-down-small}
use Rattle.decimal.proofs.any_number.Goals as goal

pub returns-then-mantissa-eq0 : goal.returns-then-mantissa-eq0
returns-then-mantissa-eq0 c =
    let s = c.sign_at-sign in
    let m = c.mantissa_at-mantissa in
    (sym (number-none _ s.result s.ensures m.result m.ensures.spans c.if-mantissa-eq0.true))

pub returns-then-not-letters_from : goal.returns-then-not-letters_from
returns-then-not-letters_from c =
    let s = c.sign_at-sign in
    let m = c.mantissa_at-mantissa in
    let e = c.exponent_at-exponent in
    let l = c.letters_from in
    sym (number-bad _ s.result s.ensures m.result m.ensures.spans c.if-mantissa-eq0.false e.result e.ensures
    (sym l.ensures ∙ c.if-not-letters_from.true))

pub overflow_add-up : goal.overflow_add-up
overflow_add-up c = omega (arith, scale-up-small _ _ c.scale_up.ensures)

pub overflow_add-down : goal.overflow_add-down
overflow_add-down c = omega (arith, scale-down-small _ _ c.scale_down.ensures)

pub finish-requires : goal.finish-requires
finish-requires c =
    omega (
      arith,
      scale-up-small _ _ c.scale_up.ensures,
      scale-down-small _ _ c.scale_down.ensures,
    )

pub returns : goal.returns
returns c =
    let s = c.sign_at-sign in
    let m = c.mantissa_at-mantissa in
    let e = c.exponent_at-exponent in
    let l = c.letters_from in
    let u = c.scale_up in
    let d = c.scale_down in
    let su = scale-up-small _ _ u.ensures in
    let sd = scale-down-small _ _ d.ensures in
    let good = c.well_formed in
    c.finish.ensures
    ∙
    (number-good _ s.result s.ensures m.result m.ensures.spans c.if-mantissa-eq0.false
    e.result e.ensures (sym l.ensures ∙ c.if-not-letters_from.false)
    u.result d.result u.ensures d.ensures
    m.result.number m.result.zeros m.ensures.stands
    (omega (arith, m.ensures.few, good))
    (omega (arith, m.ensures.spans.short, good)))
