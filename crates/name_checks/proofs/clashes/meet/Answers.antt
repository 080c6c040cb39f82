-- By the tests: rivals with equal names or not, and others within a section or not.
use mathlib.Core.Path.{sym, ap, ◌∙◌}
use mathlib.Core.List.{List}
use mathlib.Core.Bool.{Bool, cond}
use Prim.Native.Nat.{ℕ}
use Rattle.laws.specs.Lists.{part, eqs}
use Rattle.name_checks.specs.declared.Meeting.TheVariants.{Equal, Differing, Beyond}
use Rattle.name_checks.proofs.NoteLaws.{name-said}
use Rattle.name_checks.proofs.ClashLaws.{meets-rival, meets-other}
use Rattle.name_checks.proofs.clashes.meet.Goals as goal

pub returns-then-same_parts : goal.returns-then-same_parts
returns-then-same_parts c =
    let a = c.args in
    let s = a.src.now in
    let name = part a.name.start a.name.end s in
    let same = c.same_parts.ensures ∙ ap (λ (earlier : List ℕ). eqs name earlier) (name-said s a.notes.now c.part_at-earlier.result a.j c.part_at-earlier.ensures) in
    ap (λ (t : Bool). cond t Equal Differing) (sym c.if-same_parts.true)
    ∙ meets-rival s a.notes.now a.j a.k c.kind_at.result name c.kind_at.ensures c.same_parts.result (sym c.are_rivals.ensures ∙ c.if-are_rivals.true) same

pub returns-then-are_rivals : goal.returns-then-are_rivals
returns-then-are_rivals c =
    let a = c.args in
    let s = a.src.now in
    let name = part a.name.start a.name.end s in
    let same = c.same_parts.ensures ∙ ap (λ (earlier : List ℕ). eqs name earlier) (name-said s a.notes.now c.part_at-earlier.result a.j c.part_at-earlier.ensures) in
    ap (λ (t : Bool). cond t Equal Differing) (sym c.if-same_parts.false)
    ∙ meets-rival s a.notes.now a.j a.k c.kind_at.result name c.kind_at.ensures c.same_parts.result (sym c.are_rivals.ensures ∙ c.if-are_rivals.true) same

pub returns-then-is_enclosed : goal.returns-then-is_enclosed
returns-then-is_enclosed c =
    let a = c.args in
    ap (λ (t : Bool). cond t Beyond Differing) (sym c.if-is_enclosed.true)
    ∙ meets-other a.src.now a.notes.now a.j a.k c.kind_at.result (part a.name.start a.name.end a.src.now) c.kind_at.ensures c.is_enclosed.result (sym c.are_rivals.ensures ∙ c.if-are_rivals.false) c.is_enclosed.ensures

pub returns : goal.returns
returns c =
    let a = c.args in
    ap (λ (t : Bool). cond t Beyond Differing) (sym c.if-is_enclosed.false)
    ∙ meets-other a.src.now a.notes.now a.j a.k c.kind_at.result (part a.name.start a.name.end a.src.now) c.kind_at.ensures c.is_enclosed.result (sym c.are_rivals.ensures ∙ c.if-are_rivals.false) c.is_enclosed.ensures
