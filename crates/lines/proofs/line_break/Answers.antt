-- By the bytes at the place, which `from_cons` shows to the definition.
use Prim.Native.Nat.{◌+◌}
use lib.ListN.{drop, drop_of_length-le}
use borrow.Author.Tests.{ne_eqb}
use Rattle.laws.proofs.Lists.{from_cons}
use Rattle.lines.specs.Breaks.{break_of}
use Rattle.lines.specs.Lines.{is_return}
use Rattle.lines.proofs.Laws.{return-not}
use Rattle.lines.proofs.line_break.Goals as goal

pub returns-then-s-at : goal.returns-then-s-at
unfolding break_of
returns-then-s-at c = rw (drop_of_length-le c.args.s.now c.if-s-at.true)

pub returns-then-s-at-eq10 : goal.returns-then-s-at-eq10
unfolding break_of
returns-then-s-at-eq10 c = rw (from_cons c.args.s.now c.args.at 0 c.if-s-at.false, c.if-s-at-eq10.true)

pub returns-then-s-at-ne13 : goal.returns-then-s-at-ne13
unfolding break_of
returns-then-s-at-ne13 c =
    rw (
      from_cons c.args.s.now c.args.at 0 c.if-s-at.false,
      ne_eqb _ 10 c.if-s-at-eq10.false,
      return-not _ (drop (c.args.at + 1) c.args.s.now) (ne_eqb _ 13 c.if-s-at-ne13.true),
    )

pub returns-then-s-after : goal.returns-then-s-after
unfolding break_of is_return
returns-then-s-after c = rw (from_cons c.args.s.now c.args.at 0 c.if-s-at.false, c.if-s-at-ne13.false, drop_of_length-le c.args.s.now c.if-s-after.true)

pub returns-then-s-after-eq10 : goal.returns-then-s-after-eq10
unfolding break_of is_return
returns-then-s-after-eq10 c =
    let s = c.args.s.now in
    let at = c.args.at in
    rw (from_cons s at 0 c.if-s-at.false, c.if-s-at-ne13.false, from_cons s (at + 1) 0 c.if-s-after.false, c.if-s-after-eq10.true)

pub returns-else-s-after-eq10 : goal.returns-else-s-after-eq10
unfolding break_of is_return
returns-else-s-after-eq10 c =
    let s = c.args.s.now in
    let at = c.args.at in
    rw (from_cons s at 0 c.if-s-at.false, c.if-s-at-ne13.false, from_cons s (at + 1) 0 c.if-s-after.false, ne_eqb _ 10 c.if-s-after-eq10.false)
