-- `decimal::digits_at`: the invariant is `Passed`, with one law for a zero, one for another digit and one for the end.
use mathlib.Core.Path.{◌≡◌}
use native.Mathlib.Omega.{arith}
use lib.ListN.{length}
use Rattle.laws.specs.Bytes.{is_digit}
use Rattle.laws.proofs.Fronts.{front-end, front-stop}
use Rattle.laws.proofs.Bytes.{digit-below, digit-above}
use Rattle.decimal.proofs.Parts.{passed-zero, passed-digit, passed-end}
use Rattle.decimal.proofs.word.digits_at.Goals as goal
use Rattle.decimal.proofs.word.digits_at.Goals.{in-48, in-49-to-57}

pub loop-i-preserved : goal.loop-i-preserved
loop-i-preserved c =
    let l = c.loop-i in
    let t = c.loop-i-test.true in
    elim c.match-byte.branch [
      | in-48 w ↦ rw (w.read-is, w.waiting-is) (passed-zero _ _ _ _ _ _ _ l.invariant t w.in-48.is)
      | in-49-to-57 w ↦ rw (w.read-is, w.waiting-is)
          (passed-digit _ _ _ _ _ _ _ l.invariant w.grow.result w.push-read.result t (omega (arith, w.in-49-to-57.in_default-own.rest.1)) (omega (arith, w.in-49-to-57.if-byte-lt58-own.true)) w.grow.ensures w.push-read.ensures)
    ]

pub returns : goal.returns
returns c =
    let l = c.loop-i in
    let stop : length c.args.w.now ≡ l.i = omega arith in
    rw stop (passed-end _ _ _ _ _ _ _ l.invariant (front-end is_digit _ _ (omega arith)))

pub returns-in_default : goal.returns-in_default
returns-in_default c =
    let l = c.loop-i in
    passed-end _ _ _ _ _ _ _ l.invariant (front-stop is_digit _ _ 0 c.loop-i-test.true (digit-below _ (omega (arith, c.in_default.in_default-own.rest.1))))

pub returns-in_default-2 : goal.returns-in_default-2
returns-in_default-2 c =
    let l = c.loop-i in
    passed-end _ _ _ _ _ _ _ l.invariant (front-stop is_digit _ _ 0 c.loop-i-test.true (digit-above _ c.in_default.if-byte-lt58-own.false))
