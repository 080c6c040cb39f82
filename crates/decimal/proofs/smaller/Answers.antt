-- `decimal::smaller`: one law for each side that is cut.
use native.Mathlib.Omega.{arith}
use Rattle.decimal.proofs.Order.{smaller-left, smaller-right}
use Rattle.decimal.proofs.smaller.Goals as goal

pub returns-then-a-b : goal.returns-then-a-b
returns-then-a-b c =
    let v = c.args in
    smaller-left v.a.digits v.a.power v.b.digits v.b.power c.shrink.result c.if-a-b.true c.shrink.ensures

pub returns : goal.returns
returns c =
    let v = c.args in
    smaller-right v.a.digits v.a.power v.b.digits v.b.power c.shrink-2.result
    (omega arith) (omega (arith, c.if-b-eq0.false)) c.shrink-2.ensures
