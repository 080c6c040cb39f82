-- The keywords so far and those from this cursor on are those from the first: `walks-key` at a turn, `walks-found` behind a waveform, `walks-end` and `walks-out` at the end.
use mathlib.Core.Path.{refl, sym, ◌∙◌}
use native.Mathlib.Omega.{arith}
use Rattle.lines_under.proofs.Keyed.{key-found, key-out}
use Rattle.table_rows.proofs.Stores.{rest-room}
use Rattle.model_record.proofs.Walks.{walks-start, walks-length, walks-fit, behind-length, walks-key, walks-found, walks-end, walks-out}
use Rattle.model_record.proofs.bodies.take_keys.Goals as goal

pub loop-keyword-init : goal.loop-keyword-init
loop-keyword-init c = walks-start _ _ _ _ c.requires.placed.0 c.requires.placed.1

pub next_key-requires : goal.next_key-requires
next_key-requires c = c.loop-keyword.invariant.placed

pub shape_of-rows-then-ends : goal.shape_of-rows-then-ends
shape_of-rows-then-ends c = walks-length c.loop-keyword.invariant c.requires.c_in_bounds

pub returns-then-ends : goal.returns-then-ends
returns-then-ends c = walks-end c.loop-keyword.invariant (key-found c.in-Some.is c.next_key.ensures) c.no_waveform.ensures (sym c.ends.ensures ∙ c.if-ends.true)

pub offset_bounds-rows-words : goal.offset_bounds-rows-words
offset_bounds-rows-words c =
    let l = key-found c.in-Some.is c.next_key.ensures in
    omega (arith, walks-fit c.loop-keyword.invariant l (sym c.ends.ensures ∙ c.if-ends.false) c.requires.c_in_bounds, walks-length c.loop-keyword.invariant c.requires.c_in_bounds, c.well_formed)

pub slice_bounds-take_key-count : goal.slice_bounds-take_key-count
slice_bounds-take_key-count c =
    let l = key-found c.in-Some.is c.next_key.ensures in
    omega (arith, walks-fit c.loop-keyword.invariant l (sym c.ends.ensures ∙ c.if-ends.false) c.requires.c_in_bounds)

pub slice_bounds-take_key-start : goal.slice_bounds-take_key-start
slice_bounds-take_key-start c =
    let l = key-found c.in-Some.is c.next_key.ensures in
    omega (arith, walks-fit c.loop-keyword.invariant l (sym c.ends.ensures ∙ c.if-ends.false) c.requires.c_in_bounds)

pub slice_bounds-take_key-count-in-Some : goal.slice_bounds-take_key-count-in-Some
slice_bounds-take_key-count-in-Some c =
    let l = key-found c.in-Some.is c.next_key.ensures in
    omega (arith, l.starts)

pub slice_bounds-take_key-start-in-Some : goal.slice_bounds-take_key-start-in-Some
slice_bounds-take_key-start-in-Some c =
    let l = key-found c.in-Some.is c.next_key.ensures in
    omega (arith, l.starts)

pub slice_bounds-take_key-end-in-Some : goal.slice_bounds-take_key-end-in-Some
slice_bounds-take_key-end-in-Some c =
    let l = key-found c.in-Some.is c.next_key.ensures in
    l.fits

pub take_key-taken-requires : goal.take_key-taken-requires
take_key-taken-requires c =
    let l = key-found c.in-Some.is c.next_key.ensures in
    let f = c.loop-keyword.invariant.fits in
    record {
      placed = (l.placed, omega (arith, f.row, l.rises), omega (arith, f.waveforms, l.rises));
      c_in_bounds = rest-room c.loop-keyword.rows c.loop-keyword.words _ (walks-fit c.loop-keyword.invariant l (sym c.ends.ensures ∙ c.if-ends.false) c.requires.c_in_bounds);
    }

pub overflow_add-words : goal.overflow_add-words
overflow_add-words c =
    let l = key-found c.in-Some.is c.next_key.ensures in
    omega (arith, walks-fit c.loop-keyword.invariant l (sym c.ends.ensures ∙ c.if-ends.false) c.requires.c_in_bounds, c.take_key-taken.ensures.rows.used, walks-length c.loop-keyword.invariant c.requires.c_in_bounds, c.well_formed)

pub shape_of-rows-then-is_some : goal.shape_of-rows-then-is_some
shape_of-rows-then-is_some c =
    let l = key-found c.in-Some.is c.next_key.ensures in
    behind-length c.loop-keyword.invariant l (sym c.ends.ensures ∙ c.if-ends.false) c.requires.c_in_bounds c.take_key-taken.ensures refl

pub returns-then-is_some : goal.returns-then-is_some
returns-then-is_some c =
    let l = key-found c.in-Some.is c.next_key.ensures in
    walks-found c.loop-keyword.invariant l (sym c.ends.ensures ∙ c.if-ends.false) c.requires.c_in_bounds c.take_key-taken.ensures refl (sym c.is_some.ensures ∙ c.if-is_some.true)

pub loop-keyword-smaller : goal.loop-keyword-smaller
loop-keyword-smaller c =
    let l = key-found c.in-Some.is c.next_key.ensures in
    let r = c.take_key-taken.ensures.taken in
    omega (arith, l.rises, r.rises, r.placed.within)

pub loop-keyword-preserved : goal.loop-keyword-preserved
loop-keyword-preserved c =
    let l = key-found c.in-Some.is c.next_key.ensures in
    walks-key c.loop-keyword.invariant l (sym c.ends.ensures ∙ c.if-ends.false) c.requires.c_in_bounds c.take_key-taken.ensures refl (sym c.is_some.ensures ∙ c.if-is_some.false)

pub shape_of-rows-in-None : goal.shape_of-rows-in-None
shape_of-rows-in-None c = walks-length c.loop-keyword.invariant c.requires.c_in_bounds

pub returns-in-None : goal.returns-in-None
returns-in-None c = walks-out c.loop-keyword.invariant c.no_waveform-in-None.ensures (key-out _ _ c.in-None.is c.next_key.ensures)
