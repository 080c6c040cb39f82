-- Behind the pins so far the lines say what they say from the first of them on.
use Prim.Native.Nat.{ℕ}
use mathlib.Core.List.{List}
use mathlib.Core.Path.{◌≡◌, refl, sym, ◌∙◌, subst}
use native.Mathlib.Omega.{arith}
use Rattle.cut_lines.specs.Cursors.{NextIs}
use Rattle.noted_events.proofs.EventLaws.{names-small}
use Rattle.file_answer.specs.Pins.{PinNoted, with_pins, PinsAre}
use Rattle.file_answer.proofs.PinLaws.{pin-fits, pin-next, pins-none, pins-more}
use Rattle.file_answer.proofs.pins.pass_pins.Goals as goal

pub loop-pins-init : goal.loop-pins-init
loop-pins-init c =
    let a = c.args in
    (refl, λ l e. pins-none l a.src.now a.notes.now a.c a.t a.long c.requires)

pub next_text-requires : goal.next_text-requires
next_text-requires c = (c.loop-pins.invariant.1 c.args.l c.bound_of-bound.ensures).ground.placed

pub pin_noted-requires : goal.pin_noted-requires
pin_noted-requires c =
    let a = c.args in
    let i = c.loop-pins in
    let h = subst (NextIs a.src.now i.cursor) c.in-Text.is c.next_text.ensures in
    let old : _ × _ = pin-fits a.src.now i.notes i.cursor (with_pins a.t i.names i.pins) (i.invariant.1 a.l c.bound_of-bound.ensures).ground h in record { start_lt_end = old.0; i_le_names_held = old.1 }

pub shape_of-notes-then-not-pin_noted : goal.shape_of-notes-then-not-pin_noted
shape_of-notes-then-not-pin_noted c = c.notes-1.given ∙ c.loop-pins.invariant.0

pub returns-then-not-pin_noted : goal.returns-then-not-pin_noted
returns-then-not-pin_noted c =
    let a = c.args in
    let i = c.loop-pins in
    let noted = c.pin_noted in
    let same : noted.new.notes ≡ i.notes = subst (PinNoted a.src.now i.notes i.names i.pins _ _ a.long noted.new.notes) (c.if-not-pin_noted.true) noted.ensures in
    rw c.passed.ensures (subst (λ (ys : List ℕ). PinsAre a.l a.src.now a.notes.now a.c a.t a.long ys (record { cursor = i.cursor; tally = with_pins a.t i.names i.pins })) (sym same) (i.invariant.1 a.l c.bound_of-bound.ensures))

pub overflow_add-names : goal.overflow_add-names
overflow_add-names c =
    let i = c.loop-pins in
    omega (arith, names-small _ (i.invariant.1 c.args.l c.bound_of-bound.ensures).ground.within)

pub loop-pins-smaller : goal.loop-pins-smaller
loop-pins-smaller c =
    let a = c.args in
    let i = c.loop-pins in
    let h = subst (NextIs a.src.now i.cursor) c.in-Text.is c.next_text.ensures in
    omega (arith, h.goes.rises, h.goes.placed.within)

pub loop-pins-preserved : goal.loop-pins-preserved
loop-pins-preserved c =
    let a = c.args in
    let i = c.loop-pins in
    let s = a.src.now in
    let u = with_pins a.t i.names i.pins in
    let noted = c.pin_noted in
    let e = c.notes-1.given in
    let h = subst (NextIs s i.cursor) c.in-Text.is c.next_text.ensures in
    let ground = (i.invariant.1 a.l c.bound_of-bound.ensures).ground in
    let pin = subst (PinNoted s i.notes i.names i.pins _ _ a.long noted.new.notes) (c.if-not-pin_noted.false) noted.ensures in (
      e ∙ i.invariant.0,
      λ l room. pins-more l s a.notes.now a.c a.t a.long i.notes i.cursor u noted.new.notes _ e (pin-next s i.notes i.cursor u ground h l a.long noted.new.notes (omega (arith, c.loop-pins-test.true, room)) pin) (i.invariant.1 l room),
    )

pub shape_of-notes-in-Change : goal.shape_of-notes-in-Change
shape_of-notes-in-Change c = c.loop-pins.invariant.0

pub returns-in-Change : goal.returns-in-Change
returns-in-Change c = rw c.passed-in-Change.ensures (c.loop-pins.invariant.1 c.args.l c.bound_of-bound.ensures)

pub shape_of-notes-in-Out : goal.shape_of-notes-in-Out
shape_of-notes-in-Out c = c.loop-pins.invariant.0

pub returns-in-Out : goal.returns-in-Out
returns-in-Out c = rw c.passed-in-Out.ensures (c.loop-pins.invariant.1 c.args.l c.bound_of-bound.ensures)

pub shape_of-notes : goal.shape_of-notes
shape_of-notes c = c.loop-pins.invariant.0

pub returns : goal.returns
returns c = rw c.passed-2.ensures (c.loop-pins.invariant.1 c.args.l c.bound_of-bound.ensures)
