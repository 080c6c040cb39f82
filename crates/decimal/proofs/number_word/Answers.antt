-- `decimal::number_word`: of a short word the laws of `number_of` from what its parts say; else what `any_word` or `exponent_word` says.
use mathlib.Core.Path.{sym, ap, ◌∙◌}
use native.Mathlib.Omega.{arith}
use Rattle.decimal.specs.Answers.{number_word}
use Rattle.decimal.proofs.Results.{number-none, scale-up-small, scale-down-small}
use Rattle.decimal.proofs.Settled.{number-plain}
use Rattle.decimal.proofs.number_word.Goals as goal

pub returns-then-mantissa-eq0 : goal.returns-then-mantissa-eq0
returns-then-mantissa-eq0 c =
    let s = c.sign_at-sign in
    let m = c.short_mantissa_at-mantissa in
    ap number_word (sym (number-none _ s.result s.ensures m.result m.ensures.spans c.if-mantissa-eq0.true))

pub overflow_add-up : goal.overflow_add-up
overflow_add-up c = omega (arith, scale-up-small _ _ c.scale_up-up.ensures)

pub overflow_add-down : goal.overflow_add-down
overflow_add-down c = omega (arith, scale-down-small _ _ c.scale_down.ensures, c.short_mantissa_at-mantissa.ensures.spans.short, c.if-w-gt-SHORT.false)

pub settle-requires : goal.settle-requires
settle-requires c =
    let m = c.short_mantissa_at-mantissa.ensures in
    let few = c.if-w-gt-SHORT.false in
    (m.small, omega (arith, scale-up-small _ _ c.scale_up-up.ensures), omega (arith, scale-down-small _ _ c.scale_down.ensures, m.spans.short, few))

pub returns : goal.returns
returns c =
    let s = c.sign_at-sign in
    let m = c.short_mantissa_at-mantissa in
    let l = c.letters_from in
    let u = c.scale_up-up in
    let d = c.scale_down in
    c.answer_word.ensures
    ∙ ap number_word (number-plain _ c.if-w-gt-SHORT.false s.result s.ensures m.result m.ensures c.if-mantissa-eq0.false
    (sym l.ensures ∙ c.if-not-letters_from.false)
    u.result d.result u.ensures d.ensures _ c.settle.ensures)
