-- By what stands at the place and after it, which `from_cons` shows to the definition.
use Prim.Native.Nat.{◌+◌}
use lib.ListN.{drop_of_length-le}
use Rattle.laws.proofs.Lists.{from_cons}
use Rattle.keywords.specs.Form.{is_closed}
use Rattle.keywords.proofs.closed_at.Goals as goal

pub returns-then-w-at : goal.returns-then-w-at
unfolding is_closed
returns-then-w-at c = rw (drop_of_length-le c.args.w.now c.if-w-at.true)

pub returns-then-w-after : goal.returns-then-w-after
unfolding is_closed
returns-then-w-after c =
    let w = c.args.w.now in
    rw (from_cons w c.args.at 0 c.if-w-at.false, drop_of_length-le w c.if-w-after.true)

pub returns : goal.returns
unfolding is_closed
returns c =
    let w = c.args.w.now in
    let at = c.args.at in
    rw (from_cons w at 0 c.if-w-at.false, from_cons w (at + 1) 0 c.if-w-after.false) c.blank.ensures
