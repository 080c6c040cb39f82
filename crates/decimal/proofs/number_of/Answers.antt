-- `decimal::number_of`: the answer comes back from its word.
use native.Mathlib.Omega.{arith}
use Rattle.decimal.specs.Decimal.{number_of}
use Rattle.decimal.proofs.Fine.{number-fine}
use Rattle.decimal.proofs.Worded.{Tells, number-value, number-wrong}
use Rattle.decimal.proofs.number_of.Goals as goal

-- the word tells the fault
told : (c : goal.Else-answer-lt-PAST_NUMBERS) → Tells c.number_word-answer.result (number_of c.args.w.now)
told c =
    let w = c.args.w.now in
    number-wrong (number_of w) (number-fine w) c.number_word-answer.ensures c.if-answer-lt-PAST_NUMBERS.false

pub returns-then-answer-lt-PAST_NUMBERS : goal.returns-then-answer-lt-PAST_NUMBERS
returns-then-answer-lt-PAST_NUMBERS c =
    let w = c.args.w.now in
    rw c.decimal_in.ensures (number-value (number_of w) (number-fine w) c.number_word-answer.ensures c.if-answer-lt-PAST_NUMBERS.true)

pub overflow_sub-result : goal.overflow_sub-result
overflow_sub-result c = (told c).below

pub overflow_cast-result : goal.overflow_cast-result
overflow_cast-result c = omega (arith, (told c).byte)

pub returns : goal.returns
returns c = (told c).same
