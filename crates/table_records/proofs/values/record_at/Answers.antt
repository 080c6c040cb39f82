-- The record's words lie within the table.
use Prim.Native.Nat.{ℕ, ◌+◌, ◌-◌, ◌*◌}
use mathlib.Core.Path.{◌≡◌, sym, ap, ◌∙◌}
use lib.ListN.{length, take, drop}
use native.Mathlib.Omega.{arith}
use Rattle.table_records.proofs.Places.{place-fits, record-there, record-none, no_size}
use Rattle.table_records.proofs.values.record_at.Goals as goal

pub returns-then-size-eq0 : goal.returns-then-size-eq0
returns-then-size-eq0 c = sym (no_size c.args.size c.args.table.now c.args.k c.if-size-eq0.true)

pub overflow_mul-from : goal.overflow_mul-from
overflow_mul-from c = omega (arith, place-fits (length c.args.table.now) c.args.size c.args.k c.if-k-table.true)

pub overflow_add-end : goal.overflow_add-end
overflow_add-end c = omega (arith, place-fits (length c.args.table.now) c.args.size c.args.k c.if-k-table.true)

pub offset_bounds-table-from : goal.offset_bounds-table-from
offset_bounds-table-from c = omega (arith, place-fits (length c.args.table.now) c.args.size c.args.k c.if-k-table.true)

pub slice_bounds-result-end-then-k-table : goal.slice_bounds-result-end-then-k-table
slice_bounds-result-end-then-k-table c = place-fits (length c.args.table.now) c.args.size c.args.k c.if-k-table.true

pub returns-then-k-table : goal.returns-then-k-table
returns-then-k-table c =
    let t = c.args.table.now in
    let k = c.args.k in
    let s = c.args.size in
    let e : k * s + s - k * s ≡ s = omega arith in
    ap (λ (n : ℕ). take n (drop (k * s) t)) e ∙ sym (record-there s t k c.if-k-table.true)

pub returns : goal.returns
returns c = sym (record-none c.args.size c.args.table.now c.args.k c.if-k-table.false)
