-- What the turn looks at is found, or the search goes on behind it; the pins searched are those used, `take_min`.
use mathlib.Core.Path.{refl, sym, ap, ◌∙◌}
use mathlib.Core.List.{List}
use lib.ListN.{take}
use Rattle.std.proofs.lemmas.List.{take_min}
use Rattle.records.specs.declared.Pin.{Pin}
use Rattle.lent_pins.specs.Search.{try_pin, pin_place, first_of}
use Rattle.lent_pins.proofs.Laws.{goes-end, pin-found, pin-other, pin-elsewhere}
use Rattle.lent_pins.proofs.find_pin.Goals as goal
use Rattle.lent_pins.proofs.find_pin.Goals.{else-in_span-via-then-in_span+else-same_name, else-in_span-via-else-in_span}

pub loop-i-init : goal.loop-i-init
loop-i-init c = refl

pub returns-then-same_name : goal.returns-then-same_name
unfolding pin_place
returns-then-same_name c =
    let a = c.args in
    pin-found a.sought _ c.loop-i.i c.loop-i-test.true c.loop-i.invariant _ (sym c.in_span.ensures ∙ c.if-in_span.true) (sym c.same_name.ensures ∙ c.if-same_name.true)
    ∙ ap (λ (pins : List Pin). first_of (try_pin a.sought) 0 pins) (ap (λ n. take n a.pins.now) c.min-most.ensures ∙ take_min a.used a.pins.now)

pub loop-i-preserved : goal.loop-i-preserved
loop-i-preserved c =
    let a = c.args in
    elim c.else-in_span.branch [
      | else-in_span-via-then-in_span+else-same_name w ↦ pin-other a.sought _ c.loop-i.i c.loop-i-test.true c.loop-i.invariant _ (sym w.same_name.ensures ∙ w.if-same_name.false)
      | else-in_span-via-else-in_span w ↦ pin-elsewhere a.sought _ c.loop-i.i c.loop-i-test.true c.loop-i.invariant (sym c.in_span.ensures ∙ w.if-in_span.false)
    ]

pub returns : goal.returns
unfolding pin_place
returns c =
    let a = c.args in
    goes-end (try_pin a.sought) _ c.loop-i.i c.loop-i-test.false c.loop-i.invariant
    ∙ ap (λ (pins : List Pin). first_of (try_pin a.sought) 0 pins) (ap (λ n. take n a.pins.now) c.min-most.ensures ∙ take_min a.used a.pins.now)
