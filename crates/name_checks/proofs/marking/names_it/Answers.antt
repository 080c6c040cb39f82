-- By whether a name of the one kind may name one of the other; then the bytes decide.
use Prim.Native.Nat.{ℕ}
use mathlib.Core.Path.{sym, ap, ◌∙◌}
use mathlib.Core.List.{List}
use Rattle.laws.specs.Lists.{part, eqs}
use Rattle.name_checks.specs.Lookup.{model_at}
use Rattle.name_checks.proofs.NoteLaws.{name-said, model-said}
use Rattle.name_checks.proofs.TargetLaws.{reach-may, reach-not}
use Rattle.name_checks.proofs.marking.names_it.Goals as goal

pub returns-then-may_name : goal.returns-then-may_name
returns-then-may_name c =
    let a = c.args in
    let s = a.src.now in
    let model = c.part_at-model in
    let name = c.part_at-name in
    reach-may s a.notes.now a.i a.j c.kind_at-k.result c.kind_at.result c.kind_at-k.ensures c.kind_at.ensures c.same_parts.result (sym c.may_name.ensures ∙ c.if-may_name.true)
    (c.same_parts.ensures ∙ ap (λ (w : List ℕ). eqs w (part name.result.start name.result.end s)) (model-said s a.notes.now model.result a.i model.ensures) ∙ ap (λ (w : List ℕ). eqs (model_at s a.notes.now a.i) w) (name-said s a.notes.now name.result a.j name.ensures))

pub returns : goal.returns
returns c =
    let a = c.args in
    reach-not a.src.now a.notes.now a.i a.j c.kind_at-k.result c.kind_at.result c.kind_at-k.ensures c.kind_at.ensures (sym c.may_name.ensures ∙ c.if-may_name.false)
