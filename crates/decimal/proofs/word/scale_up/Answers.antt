-- `decimal::scale_up`: the byte at the place is each letter in turn, or none of them.
use borrow.Author.Tests.{ne_eqb}
use lib.ListN.{drop_of_length-le}
use Rattle.laws.proofs.Lists.{from_cons}
use Rattle.decimal.specs.Decimal.{scale_up}
use Rattle.decimal.proofs.word.scale_up.Goals as goal

pub returns-then-w-at : goal.returns-then-w-at
unfolding scale_up
returns-then-w-at c = rw (drop_of_length-le c.args.w.now c.if-w-at.true)

pub returns-in-84 : goal.returns-in-84
unfolding scale_up
returns-in-84 c = rw (from_cons c.args.w.now _ 0 c.if-w-at.false, c.in-84.is)

pub returns-in-71 : goal.returns-in-71
unfolding scale_up
returns-in-71 c = rw (from_cons c.args.w.now _ 0 c.if-w-at.false, c.in-71.is)

pub returns-in-77 : goal.returns-in-77
unfolding scale_up
returns-in-77 c = rw (from_cons c.args.w.now _ 0 c.if-w-at.false, c.in-77.is)

pub returns-in-107 : goal.returns-in-107
unfolding scale_up
returns-in-107 c = rw (from_cons c.args.w.now _ 0 c.if-w-at.false, c.in-107.is)

pub returns-in_default : goal.returns-in_default
unfolding scale_up
returns-in_default c =
    rw (from_cons c.args.w.now _ 0 c.if-w-at.false)
    (simp (ne_eqb _ 84 c.in_default.in_default-own.rest.0.0.0.1, ne_eqb _ 71 c.in_default.in_default-own.rest.0.0.1, ne_eqb _ 77 c.in_default.in_default-own.rest.0.1, ne_eqb _ 107 c.in_default.in_default-own.rest.1))
