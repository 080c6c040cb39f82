-- By what `Making` says of each turn: it puts a waveform, or the model that all its waveforms are put for.
use Prim.Native.Nat.{ℕ, suc, ◌+◌, ◌-◌, ◌<◌}
use mathlib.Core.Path.{sym, ap, subst, ◌∙◌}
use mathlib.Core.List.{List}
use native.Mathlib.Numerals.{add-one}
use native.Mathlib.Omega.{arith}
use lib.ListN.{length, set}
use Rattle.records.specs.declared.Model.{Model}
use Rattle.from_notes.specs.Made.{waveforms_at}
use Rattle.from_notes.specs.declared.Progress.{Progress}
use Rattle.reader.proofs.Making.{Made, begins, ready, seconds, firsts}
use Rattle.reader.proofs.fill_models.Goals as goal

fewer : (a t k : ℕ) → k < t → a + (t - (k + 1)) < a + (t - k)
fewer a t k h = omega (arith, h)

pub loop-i-init : goal.loop-i-init
loop-i-init c =
    let a = c.args in
    subst (λ (p : Progress). Made a.src.now a.notes.now a.o a.models.now a.waveforms.now a.rows.now 0 0 p a.models.now a.waveforms.now a.rows.now) (sym c.no_record-p.ensures)
    (begins a.src.now a.notes.now a.o a.models.now a.waveforms.now a.rows.now c.requires)

pub next_record-p-requires : goal.next_record-p-requires
next_record-p-requires c =
    let a = c.args in
    let l = c.loop-i in
    ready a.src.now a.notes.now a.o a.models.now a.waveforms.now a.rows.now l.i l.k l.p l.models l.waveforms l.rows l.invariant c.loop-i-test.true

-- behind a waveform
pub bounds-waveforms-k : goal.bounds-waveforms-k
bounds-waveforms-k c =
    let a = c.args in
    let l = c.loop-i in
    (seconds a.src.now a.notes.now a.o a.models.now a.waveforms.now a.rows.now l.i l.k l.p l.models l.waveforms l.rows l.invariant c.loop-i-test.true
    c.next_record-p.result c.next_record-p.new.rows c.next_record-p.ensures c.in-Some.waveform (sym c.waveform_made.ensures ∙ c.in-Some.is)).0

pub offset_bounds-waveforms-k : goal.offset_bounds-waveforms-k
offset_bounds-waveforms-k c =
    let a = c.args in
    let l = c.loop-i in
    let h : l.k < length l.waveforms =
    (seconds a.src.now a.notes.now a.o a.models.now a.waveforms.now a.rows.now l.i l.k l.p l.models l.waveforms l.rows l.invariant c.loop-i-test.true
    c.next_record-p.result c.next_record-p.new.rows c.next_record-p.ensures c.in-Some.waveform (sym c.waveform_made.ensures ∙ c.in-Some.is)).0 in
    omega (arith, c.well_formed)

pub overflow_add-k : goal.overflow_add-k
overflow_add-k c =
    let a = c.args in
    let l = c.loop-i in
    let h : l.k < length l.waveforms =
    (seconds a.src.now a.notes.now a.o a.models.now a.waveforms.now a.rows.now l.i l.k l.p l.models l.waveforms l.rows l.invariant c.loop-i-test.true
    c.next_record-p.result c.next_record-p.new.rows c.next_record-p.ensures c.in-Some.waveform (sym c.waveform_made.ensures ∙ c.in-Some.is)).0 in
    record { fits = omega arith }

pub loop-i-smaller-in-Some : goal.loop-i-smaller-in-Some
loop-i-smaller-in-Some c =
    let a = c.args in
    let l = c.loop-i in
    fewer (a.o.models - l.i) (length (waveforms_at a.src.now a.notes.now a.o.models)) l.k
    (seconds a.src.now a.notes.now a.o a.models.now a.waveforms.now a.rows.now l.i l.k l.p l.models l.waveforms l.rows l.invariant c.loop-i-test.true
    c.next_record-p.result c.next_record-p.new.rows c.next_record-p.ensures c.in-Some.waveform (sym c.waveform_made.ensures ∙ c.in-Some.is)).1.0

pub loop-i-preserved-in-Some : goal.loop-i-preserved-in-Some
loop-i-preserved-in-Some c =
    let a = c.args in
    let l = c.loop-i in
    let r = c.next_record-p in
    subst (λ (n : ℕ). Made a.src.now a.notes.now a.o a.models.now a.waveforms.now a.rows.now l.i n r.result l.models (set l.waveforms l.k c.in-Some.waveform) r.new.rows) (sym (add-one l.k))
    (seconds a.src.now a.notes.now a.o a.models.now a.waveforms.now a.rows.now l.i l.k l.p l.models l.waveforms l.rows l.invariant c.loop-i-test.true
    r.result r.new.rows r.ensures c.in-Some.waveform (sym c.waveform_made.ensures ∙ c.in-Some.is)).1.1

-- behind a model
pub loop-i-preserved : goal.loop-i-preserved
loop-i-preserved c =
    let a = c.args in
    let l = c.loop-i in
    let r = c.next_record-p in
    subst (λ (n : ℕ). Made a.src.now a.notes.now a.o a.models.now a.waveforms.now a.rows.now n l.k r.result (set l.models l.i c.model_made.result) l.waveforms r.new.rows) (sym (add-one l.i))
    (subst (λ (m : List Model). Made a.src.now a.notes.now a.o a.models.now a.waveforms.now a.rows.now (suc l.i) l.k r.result m l.waveforms r.new.rows) (sym (ap (set l.models l.i) c.model_made.ensures))
    (firsts a.src.now a.notes.now a.o a.models.now a.waveforms.now a.rows.now l.i l.k l.p l.models l.waveforms l.rows l.invariant c.loop-i-test.true
    r.result r.new.rows r.ensures (sym c.waveform_made.ensures ∙ c.in-None.is)).1)
