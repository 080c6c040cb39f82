-- Given before, a fault of the argument, or on: `once-stopped`, `once-given`.
use Prim.Native.Nat.{ℕ}
use mathlib.Core.Path.{ap, ◌∙◌}
use mathlib.Core.List.{List}
use Rattle.keywords.specs.Form.{argument}
use Rattle.records.specs.Flaws.{told, checked}
use Rattle.rules.specs.Going.{given_once}
use Rattle.rules.specs.Component.{component_flaw, component_opens, component_part}
use Rattle.rules.specs.declared.Stage.TheVariants.{InComponent}
use Rattle.rules.proofs.Going.{once-stopped, once-given}
use Rattle.component_steps.proofs.component_part.Goals as goal

pub returns-in_err-parts : goal.returns-in_err-parts
unfolding component_part
returns-in_err-parts c =
    let a = c.args in
    let e = c.component_fault-own.ensures ∙ ap (λ (v : List ℕ). checked (told a.w.now (component_flaw v a.p))) c.requires.text in
    let t = c.once.ensures ∙ ap (λ (i : ℕ). given_once a.c.parts i a.k c.component_fault-own.result) c.part_place.ensures in
    once-stopped _ _ _ _ (λ g. InComponent (record { line = a.c.line; first = a.c.first; parts = g; list = component_opens a.k (argument a.w.now) a.p })) e t _
    c.from_residual.ensures.1 c.in_err-parts.was

pub returns : goal.returns
unfolding component_part
returns c =
    let a = c.args in
    let e = c.component_fault-own.ensures ∙ ap (λ (v : List ℕ). checked (told a.w.now (component_flaw v a.p))) c.requires.text in
    let t = c.once.ensures ∙ ap (λ (i : ℕ). given_once a.c.parts i a.k c.component_fault-own.result) c.part_place.ensures in
    rw (c.part_opens-list.ensures ∙ ap (λ (v : List ℕ). component_opens a.k v a.p) c.requires.text)
    (once-given _ _ _ _ (λ g. InComponent (record { line = a.c.line; first = a.c.first; parts = g; list = component_opens a.k (argument a.w.now) a.p })) e t c.in_ok-parts.was)
