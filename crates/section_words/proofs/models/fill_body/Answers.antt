-- The keywords so far and their words: `fills-key` at a turn, `walks-end` and `walks-out` at the end.
use mathlib.Core.Path.{refl, sym, ◌∙◌}
use native.Mathlib.Omega.{arith}
use Rattle.lines_under.proofs.Keyed.{key-found, key-out}
use Rattle.table_rows.proofs.Stores.{rest-room}
use Rattle.section_words.proofs.Walks.{waves-length, rows-length, waves-fit, rows_fit, walks-end, walks-out}
use Rattle.section_words.proofs.Fills.{fills-start, wave-room, place-fits, filled, place_is, fills-key, fills-whole}
use Rattle.section_words.proofs.models.fill_body.Goals as goal

pub loop-keyword-init : goal.loop-keyword-init
loop-keyword-init c = fills-start _ _ _ _ _ _ c.requires.placed.0 c.requires.placed.1

pub next_key-requires : goal.next_key-requires
next_key-requires c = c.loop-keyword.invariant.walks.placed

pub shape_of-model-then-ends : goal.shape_of-model-then-ends
shape_of-model-then-ends c = c.loop-keyword.invariant.sized

pub shape_of-waveforms-then-ends : goal.shape_of-waveforms-then-ends
shape_of-waveforms-then-ends c = waves-length c.loop-keyword.invariant.walks c.requires.c_in_bounds c.requires.c_in_bounds_2

pub shape_of-rows-then-ends : goal.shape_of-rows-then-ends
shape_of-rows-then-ends c = rows-length c.loop-keyword.invariant.walks c.requires.c_in_bounds c.requires.c_in_bounds_2

pub returns-then-ends : goal.returns-then-ends
returns-then-ends c = fills-whole c.loop-keyword.invariant (walks-end c.loop-keyword.invariant.walks (key-found c.in-Some.is c.next_key.ensures) (sym c.ends.ensures ∙ c.if-ends.true))

pub offset_bounds-waveforms-waves : goal.offset_bounds-waveforms-waves
offset_bounds-waveforms-waves c =
    let l = key-found c.in-Some.is c.next_key.ensures in
    omega (arith, waves-fit c.loop-keyword.invariant.walks c.requires.c_in_bounds c.requires.c_in_bounds_2 l (sym c.ends.ensures ∙ c.if-ends.false), waves-length c.loop-keyword.invariant.walks c.requires.c_in_bounds c.requires.c_in_bounds_2, c.well_formed)

pub slice_bounds-fill_key-count : goal.slice_bounds-fill_key-count
slice_bounds-fill_key-count c =
    let l = key-found c.in-Some.is c.next_key.ensures in
    omega (arith, waves-fit c.loop-keyword.invariant.walks c.requires.c_in_bounds c.requires.c_in_bounds_2 l (sym c.ends.ensures ∙ c.if-ends.false))

pub slice_bounds-fill_key-start : goal.slice_bounds-fill_key-start
slice_bounds-fill_key-start c =
    let l = key-found c.in-Some.is c.next_key.ensures in
    omega (arith, waves-fit c.loop-keyword.invariant.walks c.requires.c_in_bounds c.requires.c_in_bounds_2 l (sym c.ends.ensures ∙ c.if-ends.false))

pub offset_bounds-rows-words : goal.offset_bounds-rows-words
offset_bounds-rows-words c =
    let l = key-found c.in-Some.is c.next_key.ensures in
    omega (arith, rows_fit c.loop-keyword.invariant.walks c.requires.c_in_bounds c.requires.c_in_bounds_2 l (sym c.ends.ensures ∙ c.if-ends.false), rows-length c.loop-keyword.invariant.walks c.requires.c_in_bounds c.requires.c_in_bounds_2, c.well_formed)

pub slice_bounds-fill_key-count-in-Some : goal.slice_bounds-fill_key-count-in-Some
slice_bounds-fill_key-count-in-Some c =
    let l = key-found c.in-Some.is c.next_key.ensures in
    omega (arith, rows_fit c.loop-keyword.invariant.walks c.requires.c_in_bounds c.requires.c_in_bounds_2 l (sym c.ends.ensures ∙ c.if-ends.false))

pub slice_bounds-fill_key-start-in-Some : goal.slice_bounds-fill_key-start-in-Some
slice_bounds-fill_key-start-in-Some c =
    let l = key-found c.in-Some.is c.next_key.ensures in
    omega (arith, rows_fit c.loop-keyword.invariant.walks c.requires.c_in_bounds c.requires.c_in_bounds_2 l (sym c.ends.ensures ∙ c.if-ends.false))

pub slice_bounds-fill_key-count-in-Some-2 : goal.slice_bounds-fill_key-count-in-Some-2
slice_bounds-fill_key-count-in-Some-2 c = omega (arith, (key-found c.in-Some.is c.next_key.ensures).starts)

pub slice_bounds-fill_key-start-in-Some-2 : goal.slice_bounds-fill_key-start-in-Some-2
slice_bounds-fill_key-start-in-Some-2 c = omega (arith, (key-found c.in-Some.is c.next_key.ensures).starts)

pub slice_bounds-fill_key-end-in-Some-2 : goal.slice_bounds-fill_key-end-in-Some-2
slice_bounds-fill_key-end-in-Some-2 c = (key-found c.in-Some.is c.next_key.ensures).fits

pub fill_key-filled-requires : goal.fill_key-filled-requires
fill_key-filled-requires c =
    let l = key-found c.in-Some.is c.next_key.ensures in
    let p = c.loop-keyword.invariant in
    record {
      placed = (l.placed, place-fits p l (sym c.ends.ensures ∙ c.if-ends.false), omega (arith, p.sized, c.requires.placed.2));
      row_in_bounds = rest-room c.loop-keyword.waveforms c.loop-keyword.waves _ (wave-room p l (sym c.ends.ensures ∙ c.if-ends.false) (waves-fit p.walks c.requires.c_in_bounds c.requires.c_in_bounds_2 l (sym c.ends.ensures ∙ c.if-ends.false)));
      k_in_bounds = rest-room c.loop-keyword.rows c.loop-keyword.words _ (rows_fit p.walks c.requires.c_in_bounds c.requires.c_in_bounds_2 l (sym c.ends.ensures ∙ c.if-ends.false));
    }

pub overflow_add-place : goal.overflow_add-place
overflow_add-place c =
    let l = key-found c.in-Some.is c.next_key.ensures in
    let p = c.loop-keyword.invariant in
    let t = (filled p l (sym c.ends.ensures ∙ c.if-ends.false) c.fill_key-filled.ensures).taken in
    omega (arith, place_is p l (sym c.ends.ensures ∙ c.if-ends.false) c.fill_key-filled.ensures, t.fits.row, t.placed.within, c.well_formed)

pub overflow_add-waves : goal.overflow_add-waves
overflow_add-waves c =
    let l = key-found c.in-Some.is c.next_key.ensures in
    let p = c.loop-keyword.invariant in
    omega (arith, waves-fit p.walks c.requires.c_in_bounds c.requires.c_in_bounds_2 l (sym c.ends.ensures ∙ c.if-ends.false), (filled p l (sym c.ends.ensures ∙ c.if-ends.false) c.fill_key-filled.ensures).waveform.used, waves-length p.walks c.requires.c_in_bounds c.requires.c_in_bounds_2, c.well_formed)

pub overflow_add-words : goal.overflow_add-words
overflow_add-words c =
    let l = key-found c.in-Some.is c.next_key.ensures in
    let p = c.loop-keyword.invariant in
    omega (arith, rows_fit p.walks c.requires.c_in_bounds c.requires.c_in_bounds_2 l (sym c.ends.ensures ∙ c.if-ends.false), (filled p l (sym c.ends.ensures ∙ c.if-ends.false) c.fill_key-filled.ensures).rows.used, rows-length p.walks c.requires.c_in_bounds c.requires.c_in_bounds_2, c.well_formed)

pub loop-keyword-smaller : goal.loop-keyword-smaller
loop-keyword-smaller c =
    let l = key-found c.in-Some.is c.next_key.ensures in
    let r = (filled c.loop-keyword.invariant l (sym c.ends.ensures ∙ c.if-ends.false) c.fill_key-filled.ensures).taken in
    omega (arith, l.rises, r.rises, r.placed.within)

pub loop-keyword-preserved : goal.loop-keyword-preserved
loop-keyword-preserved c =
    let l = key-found c.in-Some.is c.next_key.ensures in
    fills-key c.loop-keyword.invariant l (sym c.ends.ensures ∙ c.if-ends.false) c.fill_key-filled.ensures c.requires.c_in_bounds c.requires.c_in_bounds_2 refl refl c.model-1.given

pub shape_of-model-in-None : goal.shape_of-model-in-None
shape_of-model-in-None c = c.loop-keyword.invariant.sized

pub shape_of-waveforms-in-None : goal.shape_of-waveforms-in-None
shape_of-waveforms-in-None c = waves-length c.loop-keyword.invariant.walks c.requires.c_in_bounds c.requires.c_in_bounds_2

pub shape_of-rows-in-None : goal.shape_of-rows-in-None
shape_of-rows-in-None c = rows-length c.loop-keyword.invariant.walks c.requires.c_in_bounds c.requires.c_in_bounds_2

pub returns-in-None : goal.returns-in-None
returns-in-None c = fills-whole c.loop-keyword.invariant (walks-out c.loop-keyword.invariant.walks (key-out _ _ c.in-None.is c.next_key.ensures))
