-- The texts that are left from here on are those that are left of all: `parts-turn` at a turn, `part-here` and `part-past` at the ways out.
use Prim.Native.Nat.{ℕ, ◌<◌}
use mathlib.Core.Path.{refl, sym, ap, ◌∙◌}
use lib.ListN.{drop}
use borrow.Author.Rules.{rules}
use Rattle.text_buffer.specs.Parts.{parts, start_from}
use Rattle.text_buffer.proofs.PartLaws.{start-turn, parts-turn, part-here, part-past}
use Rattle.text_buffer.proofs.tables.part_at.Goals as goal

pub loop-start-init : goal.loop-start-init
loop-start-init c = (refl, refl)

pub returns-then-left-eq0 : goal.returns-then-left-eq0
returns-then-left-eq0 c =
    let a = c.args in
    let l = c.loop-start in
    let f = c.find-end.ensures in
    part-here a.table.now a.separator l.start _ c.loop-start-test.true f.value a.place f.lower_bound.1
    (ap (λ (n : ℕ). drop n (parts a.separator (drop l.start a.table.now))) (sym c.if-left-eq0.true) ∙ l.invariant.0)
    (ap (start_from a.separator a.table.now l.start) (sym c.if-left-eq0.true) ∙ l.invariant.1)

pub loop-start-preserved : goal.loop-start-preserved
loop-start-preserved c =
    let a = c.args in
    let l = c.loop-start in
    let q : 0 < l.left = search rules in (
      sym (parts-turn a.table.now a.separator l.start _ c.loop-start-test.true c.find-end.ensures.value l.left q) ∙ l.invariant.0,
      start-turn a.separator a.table.now l.start _ l.left c.find-end.ensures.value q ∙ l.invariant.1,
    )

pub returns : goal.returns
returns c =
    let a = c.args in
    let l = c.loop-start in
    part-past a.table.now a.separator l.start l.left a.place c.loop-start-test.false l.invariant.0 l.invariant.1
