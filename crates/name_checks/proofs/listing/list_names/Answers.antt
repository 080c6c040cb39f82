-- The names before place i are listed; a turn of either table is one law.
use Rattle.name_checks.specs.Lookup.{with_key, with_slot}
use Rattle.name_checks.proofs.ListingLaws.{after_none, after_turn}
use Rattle.name_checks.proofs.listing.list_names.Goals as goal

pub loop-i-init : goal.loop-i-init
loop-i-init c =
    let a = c.args in
    (after_none (with_key a.src.now a.notes.now) a.seen.now, after_none (with_slot a.src.now a.notes.now) a.slots.now)

pub loop-i-preserved : goal.loop-i-preserved
loop-i-preserved c =
    let a = c.args in
    let p = c.loop-i in
    (after_turn (with_key a.src.now a.notes.now) a.seen.now p.i p.seen _ p.invariant.0 c.list_name.ensures.seen_after, after_turn (with_slot a.src.now a.notes.now) a.slots.now p.i p.slots _ p.invariant.1 c.list_name.ensures.slots_after)
