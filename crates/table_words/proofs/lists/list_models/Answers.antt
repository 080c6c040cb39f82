-- The words of the first models lie over the table: `models-turn` at a turn.
use Prim.Native.Nat.{◌*◌}
use mathlib.Core.Path.{◌≡◌, refl, sym}
use native.Mathlib.Omega.{arith}
use Rattle.record_words.specs.Records.{model_size}
use Rattle.table_rows.proofs.Stores.{rest-room}
use Rattle.table_words.specs.Packed.{listed_words_at}
use Rattle.table_words.proofs.Models.{to_start, models-length, models-fit, models-turn}
use Rattle.table_words.proofs.lists.list_models.Goals as goal

pub loop-i-init : goal.loop-i-init
loop-i-init c = to_start (listed_words_at c.args.src.now c.args.notes.now) _

pub overflow_mul-i : goal.overflow_mul-i
overflow_mul-i c =
    let a = c.args in
    omega (arith, models-fit (listed_words_at a.src.now a.notes.now) (λ k. refl) c.loop-i.invariant a.n c.requires c.loop-i-test.true)

pub slice_bounds-list_model-count : goal.slice_bounds-list_model-count
slice_bounds-list_model-count c =
    let a = c.args in
    omega (arith, models-fit (listed_words_at a.src.now a.notes.now) (λ k. refl) c.loop-i.invariant a.n c.requires c.loop-i-test.true)

pub slice_bounds-list_model-start : goal.slice_bounds-list_model-start
slice_bounds-list_model-start c =
    let a = c.args in
    omega (arith, models-fit (listed_words_at a.src.now a.notes.now) (λ k. refl) c.loop-i.invariant a.n c.requires c.loop-i-test.true)

pub list_model-requires : goal.list_model-requires
list_model-requires c =
    let a = c.args in
    let l = c.loop-i in
    rest-room l.models (model_size * l.i) model_size (models-fit (listed_words_at a.src.now a.notes.now) (λ k. refl) l.invariant a.n c.requires c.loop-i-test.true)

pub loop-i-preserved : goal.loop-i-preserved
loop-i-preserved c =
    let a = c.args in
    let q = c.loop-i-test.true in
    models-turn (listed_words_at a.src.now a.notes.now) (λ k. refl) c.loop-i.invariant a.n c.requires q refl c.list_model.ensures

pub shape_of-models : goal.shape_of-models
shape_of-models c = models-length (listed_words_at c.args.src.now c.args.notes.now) (λ k. refl) c.loop-i.invariant c.args.n c.requires c.loop-i.auto.i-end

pub returns : goal.returns
returns c =
    let e : c.loop-i.i ≡ c.args.n = omega (arith, c.loop-i-test.false, c.loop-i.auto.i-end) in
    rw (sym e) c.loop-i.invariant.store
