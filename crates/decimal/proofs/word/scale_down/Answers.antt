-- `decimal::scale_down`: the byte at the place is each letter in turn, or none of them.
use borrow.Author.Tests.{ne_eqb}
use lib.ListN.{drop_of_length-le}
use Rattle.laws.proofs.Lists.{from_cons}
use Rattle.decimal.specs.Decimal.{scale_down}
use Rattle.decimal.proofs.word.scale_down.Goals as goal

pub returns-then-w-at : goal.returns-then-w-at
unfolding scale_down
returns-then-w-at c = rw (drop_of_length-le c.args.w.now c.if-w-at.true)

pub returns-in-109 : goal.returns-in-109
unfolding scale_down
returns-in-109 c = rw (from_cons c.args.w.now _ 0 c.if-w-at.false, c.in-109.is)

pub returns-in-117 : goal.returns-in-117
unfolding scale_down
returns-in-117 c = rw (from_cons c.args.w.now _ 0 c.if-w-at.false, c.in-117.is)

pub returns-in-110 : goal.returns-in-110
unfolding scale_down
returns-in-110 c = rw (from_cons c.args.w.now _ 0 c.if-w-at.false, c.in-110.is)

pub returns-in-112 : goal.returns-in-112
unfolding scale_down
returns-in-112 c = rw (from_cons c.args.w.now _ 0 c.if-w-at.false, c.in-112.is)

pub returns-in-102 : goal.returns-in-102
unfolding scale_down
returns-in-102 c = rw (from_cons c.args.w.now _ 0 c.if-w-at.false, c.in-102.is)

pub returns-in_default : goal.returns-in_default
unfolding scale_down
returns-in_default c =
    rw (from_cons c.args.w.now _ 0 c.if-w-at.false)
    (simp (ne_eqb _ 109 c.in_default.in_default-own.rest.0.0.0.0.1, ne_eqb _ 117 c.in_default.in_default-own.rest.0.0.0.1, ne_eqb _ 110 c.in_default.in_default-own.rest.0.0.1, ne_eqb _ 112 c.in_default.in_default-own.rest.0.1, ne_eqb _ 102 c.in_default.in_default-own.rest.1))
