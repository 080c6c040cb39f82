-- From place i on the search finds what it finds from the start.
use Rattle.std.specs.Prelude.{Some}
use Prim.Native.Nat.{ℕ, ◌+◌}
use mathlib.Core.Path.{◌≡◌, sym, ap, ◌∙◌}
use mathlib.Core.Bool.{Bool, true, false}
use mathlib.Core.List.{List}
use lib.Dec.{eqb}
use native.Mathlib.Omega.{arith}
use borrow.Author.Tests.{eq-eqb, ne_eqb}
use Rattle.table_records.specs.Values.{record_at, number_at}
use Rattle.questions.specs.Searched.{first_place}
use Rattle.questions.proofs.Laws.{seeks-first, seeks-found, seeks-next, seeks-none}
use Rattle.program_output.specs.Sections.{with_section}
use Rattle.program_output.proofs.sections.with_section.Invariants.{test}
use Rattle.program_output.proofs.sections.with_section.Goals as goal

-- what the code tells of a record's first word; the search counts from 0
tested : (size : ℕ) (table : List ℕ) (k i : ℕ) (words : List ℕ) (w : ℕ) (t : Bool) → words ≡ record_at size table i → w ≡ number_at words 0 → eqb w k ≡ t → test size table k (0 + i) ≡ t
tested size table k i words w t a d e =
    let z : 0 + i ≡ i = omega arith in
    rw z (ap (λ (x : List ℕ). eqb (number_at x 0) k) (sym a) ∙ ap (λ (x : ℕ). eqb x k) (sym d) ∙ e)

pub loop-i-init : goal.loop-i-init
loop-i-init c = seeks-first _ _ _

pub returns-then-number_at-k : goal.returns-then-number_at-k
unfolding with_section
returns-then-number_at-k c =
    let l = c.loop-i in
    let b = c.args in
    let z : l.i ≡ 0 + l.i = omega arith in
    let t = tested b.size b.table.now b.k l.i _ _ true c.record_at.ensures c.number_at.ensures (eq-eqb _ _ c.if-number_at-k.true) in
    ap Some z ∙ seeks-found _ _ _ l.i c.loop-i-test.true l.invariant t ∙ ap (first_place (test b.size b.table.now b.k) 0) c.records_in-n.ensures

pub loop-i-preserved : goal.loop-i-preserved
loop-i-preserved c =
    let l = c.loop-i in
    let b = c.args in
    let t = tested b.size b.table.now b.k l.i _ _ false c.record_at.ensures c.number_at.ensures (ne_eqb _ _ c.if-number_at-k.false) in
    seeks-next _ _ _ l.i c.loop-i-test.true l.invariant t

pub returns : goal.returns
unfolding with_section
returns c =
    let b = c.args in
    seeks-none _ _ _ c.loop-i.i c.loop-i-test.false c.loop-i.invariant ∙ ap (first_place (test b.size b.table.now b.k) 0) c.records_in-n.ensures
