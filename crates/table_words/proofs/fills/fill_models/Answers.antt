-- The words of the first models lie over each table: `models-turn` and `to-turn` at a turn.
use Prim.Native.Nat.{◌*◌}
use mathlib.Core.Path.{◌≡◌, refl, sym, ap}
use native.Mathlib.Omega.{arith}
use Rattle.record_words.specs.Records.{model_size}
use Rattle.table_rows.proofs.Stores.{rest-room}
use Rattle.section_words.specs.declared.Used.{Used}
use Rattle.table_words.specs.Packed.{model_words_at, waveform_words_at, row_words_at}
use Rattle.table_words.proofs.Models.{to_start, to-length, to-fit, to-turn, models-length, models-fit, models-turn}
use Rattle.table_words.proofs.fills.fill_models.Goals as goal

pub loop-i-init : goal.loop-i-init
loop-i-init c =
    let a = c.args in
    (to_start (model_words_at a.src.now a.notes.now) _, to_start (waveform_words_at a.src.now a.notes.now) _, to_start (row_words_at a.src.now a.notes.now) _)

pub overflow_mul-i : goal.overflow_mul-i
overflow_mul-i c =
    let a = c.args in
    omega (arith, models-fit (model_words_at a.src.now a.notes.now) (λ k. refl) c.loop-i.invariant.0 a.n c.requires.n_in_bounds c.loop-i-test.true)

pub slice_bounds-fill_model-count : goal.slice_bounds-fill_model-count
slice_bounds-fill_model-count c =
    let a = c.args in
    omega (arith, models-fit (model_words_at a.src.now a.notes.now) (λ k. refl) c.loop-i.invariant.0 a.n c.requires.n_in_bounds c.loop-i-test.true)

pub slice_bounds-fill_model-start : goal.slice_bounds-fill_model-start
slice_bounds-fill_model-start c =
    let a = c.args in
    omega (arith, models-fit (model_words_at a.src.now a.notes.now) (λ k. refl) c.loop-i.invariant.0 a.n c.requires.n_in_bounds c.loop-i-test.true)

pub offset_bounds-waveforms-waves : goal.offset_bounds-waveforms-waves
offset_bounds-waveforms-waves c =
    let a = c.args in
    let f = waveform_words_at a.src.now a.notes.now in
    omega (arith, to-fit f c.loop-i.invariant.1 a.n c.requires.n_in_bounds_2 c.loop-i-test.true, to-length f c.loop-i.invariant.1 a.n c.requires.n_in_bounds_2 c.loop-i.auto.i-end, c.well_formed)

pub slice_bounds-fill_model-count-in-loop-i : goal.slice_bounds-fill_model-count-in-loop-i
slice_bounds-fill_model-count-in-loop-i c =
    let a = c.args in
    let f = waveform_words_at a.src.now a.notes.now in
    omega (arith, to-fit f c.loop-i.invariant.1 a.n c.requires.n_in_bounds_2 c.loop-i-test.true)

pub slice_bounds-fill_model-start-in-loop-i : goal.slice_bounds-fill_model-start-in-loop-i
slice_bounds-fill_model-start-in-loop-i c =
    let a = c.args in
    let f = waveform_words_at a.src.now a.notes.now in
    omega (arith, to-fit f c.loop-i.invariant.1 a.n c.requires.n_in_bounds_2 c.loop-i-test.true)

pub offset_bounds-rows-words : goal.offset_bounds-rows-words
offset_bounds-rows-words c =
    let a = c.args in
    let f = row_words_at a.src.now a.notes.now in
    omega (arith, to-fit f c.loop-i.invariant.2 a.n c.requires.n_in_bounds_3 c.loop-i-test.true, to-length f c.loop-i.invariant.2 a.n c.requires.n_in_bounds_3 c.loop-i.auto.i-end, c.well_formed)

pub slice_bounds-fill_model-count-in-loop-i-2 : goal.slice_bounds-fill_model-count-in-loop-i-2
slice_bounds-fill_model-count-in-loop-i-2 c =
    let a = c.args in
    let f = row_words_at a.src.now a.notes.now in
    omega (arith, to-fit f c.loop-i.invariant.2 a.n c.requires.n_in_bounds_3 c.loop-i-test.true)

pub slice_bounds-fill_model-start-in-loop-i-2 : goal.slice_bounds-fill_model-start-in-loop-i-2
slice_bounds-fill_model-start-in-loop-i-2 c =
    let a = c.args in
    let f = row_words_at a.src.now a.notes.now in
    omega (arith, to-fit f c.loop-i.invariant.2 a.n c.requires.n_in_bounds_3 c.loop-i-test.true)

pub fill_model-used-requires : goal.fill_model-used-requires
fill_model-used-requires c =
    let a = c.args in
    let l = c.loop-i in
    record {
      model_size_in_bounds = rest-room l.models (model_size * l.i) model_size (models-fit (model_words_at a.src.now a.notes.now) (λ k. refl) l.invariant.0 a.n c.requires.n_in_bounds c.loop-i-test.true);
      i_in_bounds = rest-room l.waveforms l.waves _ (to-fit (waveform_words_at a.src.now a.notes.now) l.invariant.1 a.n c.requires.n_in_bounds_2 c.loop-i-test.true);
      i_in_bounds_2 = rest-room l.rows l.words _ (to-fit (row_words_at a.src.now a.notes.now) l.invariant.2 a.n c.requires.n_in_bounds_3 c.loop-i-test.true);
    }

pub overflow_add-waves : goal.overflow_add-waves
overflow_add-waves c =
    let a = c.args in
    let f = waveform_words_at a.src.now a.notes.now in
    omega (arith, ap (λ (u : Used). u.waveforms) c.fill_model-used.ensures.value, to-fit f c.loop-i.invariant.1 a.n c.requires.n_in_bounds_2 c.loop-i-test.true, to-length f c.loop-i.invariant.1 a.n c.requires.n_in_bounds_2 c.loop-i.auto.i-end, c.well_formed)

pub overflow_add-words : goal.overflow_add-words
overflow_add-words c =
    let a = c.args in
    let f = row_words_at a.src.now a.notes.now in
    omega (arith, ap (λ (u : Used). u.rows) c.fill_model-used.ensures.value, to-fit f c.loop-i.invariant.2 a.n c.requires.n_in_bounds_3 c.loop-i-test.true, to-length f c.loop-i.invariant.2 a.n c.requires.n_in_bounds_3 c.loop-i.auto.i-end, c.well_formed)

pub loop-i-preserved : goal.loop-i-preserved
loop-i-preserved c =
    let a = c.args in
    let q = c.loop-i-test.true in
    let r = c.fill_model-used.ensures in (
      models-turn (model_words_at a.src.now a.notes.now) (λ k. refl) c.loop-i.invariant.0 a.n c.requires.n_in_bounds q refl r.model_after,
      to-turn (waveform_words_at a.src.now a.notes.now) c.loop-i.invariant.1 a.n c.requires.n_in_bounds_2 q refl (record { used = ap (λ (u : Used). u.waveforms) r.value; store = r.waveforms_after }),
      to-turn (row_words_at a.src.now a.notes.now) c.loop-i.invariant.2 a.n c.requires.n_in_bounds_3 q refl (record { used = ap (λ (u : Used). u.rows) r.value; store = r.rows_after }),
    )

pub shape_of-models : goal.shape_of-models
shape_of-models c = models-length (model_words_at c.args.src.now c.args.notes.now) (λ k. refl) c.loop-i.invariant.0 c.args.n c.requires.n_in_bounds c.loop-i.auto.i-end

pub shape_of-waveforms : goal.shape_of-waveforms
shape_of-waveforms c = to-length (waveform_words_at c.args.src.now c.args.notes.now) c.loop-i.invariant.1 c.args.n c.requires.n_in_bounds_2 c.loop-i.auto.i-end

pub shape_of-rows : goal.shape_of-rows
shape_of-rows c = to-length (row_words_at c.args.src.now c.args.notes.now) c.loop-i.invariant.2 c.args.n c.requires.n_in_bounds_3 c.loop-i.auto.i-end

pub returns : goal.returns
returns c =
    let e : c.loop-i.i ≡ c.args.n = omega (arith, c.loop-i-test.false, c.loop-i.auto.i-end) in
    rw (sym e) record {
      models_after = c.loop-i.invariant.0.store;
      waveforms_after = c.loop-i.invariant.1.store;
      rows_after = c.loop-i.invariant.2.store;
    }
