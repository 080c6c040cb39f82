-- From here on, with what stands just before, the parts are joined as from the start: a law for each branch.
use Prim.Native.Nat.{◌+◌}
use mathlib.Core.Path.{◌≡◌, sym, ap, ◌∙◌}
use mathlib.Core.Bool.{true, false, Bool}
use lib.ListN.{drop}
use Rattle.keywords.specs.Form.{in_parts}
use Rattle.keywords.proofs.Laws.{parts-joint, parts_twice, parts-blank, parts_more, parts-end}
use Rattle.keywords.proofs.in_parts.Goals as goal
use Rattle.keywords.proofs.in_parts.Goals.{then-joint+else-not-part, else-joint+else-blank}

pub returns-then-not-part : goal.returns-then-not-part
returns-then-not-part c =
    let l = c.loop-b in
    sym (parts_twice c.args.w.now l.b-index c.loop-b-test.true l.part (sym c.joint.ensures ∙ c.if-joint.true) c.if-not-part.true) ∙ l.invariant

pub returns-then-blank : goal.returns-then-blank
returns-then-blank c =
    let l = c.loop-b in
    sym (parts-blank c.args.w.now l.b-index c.loop-b-test.true l.part (sym c.joint.ensures ∙ c.if-joint.false) (sym c.blank.ensures ∙ c.if-blank.true)) ∙ l.invariant

pub loop-b-preserved : goal.loop-b-preserved
loop-b-preserved c =
    let s = c.args.w.now in
    let l = c.loop-b in
    let here = c.loop-b-test.true in
    let j = sym c.joint.ensures in
    let on : (p : Bool) → c.if-joint.part ≡ p → in_parts l.part (drop l.b-index s) ≡ in_parts p (drop (l.b-index + 1) s) → in_parts c.if-joint.part (drop (l.b-index + 1) s) ≡ in_parts false s =
    λ p e q. ap (λ (b : Bool). in_parts b (drop (l.b-index + 1) s)) e ∙ sym q ∙ l.invariant in
    elim c.if-joint.branch [
      | then-joint+else-not-part w ↦ (on false w.part-is (parts-joint s l.b-index here l.part (j ∙ w.if-joint.true) w.if-not-part.false))
      | else-joint+else-blank w ↦ (on true w.part-is (parts_more s l.b-index here l.part (j ∙ w.if-joint.false) (sym w.blank.ensures ∙ w.if-blank.false)))
    ]

pub returns : goal.returns
returns c =
    let l = c.loop-b in
    sym (parts-end c.args.w.now l.b-index l.part c.loop-b-test.false) ∙ l.invariant
