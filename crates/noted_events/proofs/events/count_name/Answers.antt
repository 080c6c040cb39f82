-- By whether the table is full.
use Prim.Native.Nat.{◌≤◌, ◌<◌}
use mathlib.Core.Path.{◌∙◌}
use native.Mathlib.Omega.{arith}
use Rattle.rules.specs.Whole.{bound}
use Rattle.notes.specs.Noted.{used}
use Rattle.noted_events.proofs.EventLaws.{counted-full, counted-going}
use Rattle.noted_events.proofs.events.count_name.Goals as goal

pub returns-then-bound_of-used_of : goal.returns-then-bound_of-used_of
returns-then-bound_of-used_of c =
    let a = c.args in
    let h : bound a.l a.k ≤ used a.t.counts a.k = omega (arith, c.if-bound_of-used_of.true, c.bound_of.ensures, c.used_of.ensures) in
    c.no_room.ensures ∙ counted-full a.l a.t a.k h

pub returns : goal.returns
returns c =
    let a = c.args in
    let h : used a.t.counts a.k < bound a.l a.k = omega (arith, c.if-bound_of-used_of.false, c.bound_of.ensures, c.used_of.ensures) in
    rw c.one_more.ensures (counted-going a.l a.t a.k h)
