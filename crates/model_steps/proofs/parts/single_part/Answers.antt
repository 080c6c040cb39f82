-- A part that was given, an argument with a fault; else on: `once-stopped`, `once-given`.
use Prim.Native.Nat.{ℕ}
use mathlib.Core.Path.{ap, ◌∙◌}
use mathlib.Core.List.{List}
use Rattle.records.specs.Flaws.{told, checked}
use Rattle.rules.specs.Going.{given_once, quietly}
use Rattle.rules.specs.Model.{model_flaw, model_opens, with_parts, single_part}
use Rattle.rules.specs.declared.Stage.TheVariants.{InModel}
use Rattle.rules.proofs.Going.{once-stopped, once-given}
use Rattle.model_steps.proofs.parts.single_part.Goals as goal

pub returns-in_err-parts : goal.returns-in_err-parts
unfolding single_part
returns-in_err-parts c =
    let a = c.args in
    let e = c.model_fault-own.ensures ∙ ap (λ (v : List ℕ). checked (told a.w.now (model_flaw v a.p))) c.requires.text in
    let t = c.once.ensures ∙ ap (λ (i : ℕ). given_once a.m.parts i a.k c.model_fault-own.result) c.model_place.ensures in
    once-stopped _ _ _ _ (λ g. InModel (with_parts a.m g a.m.waveforms (model_opens a.k a.p))) e t _ c.from_residual.ensures.1 c.in_err-parts.was

pub returns : goal.returns
unfolding single_part
returns c =
    let a = c.args in
    let e = c.model_fault-own.ensures ∙ ap (λ (v : List ℕ). checked (told a.w.now (model_flaw v a.p))) c.requires.text in
    let t = c.once.ensures ∙ ap (λ (i : ℕ). given_once a.m.parts i a.k c.model_fault-own.result) c.model_place.ensures in
    c.quiet.ensures
    ∙ ap (λ (l : _). quietly (InModel (with_parts a.m c.in_ok-parts.parts a.m.waveforms l))) c.model_opens-list.ensures
    ∙ once-given _ _ _ _ (λ g. InModel (with_parts a.m g a.m.waveforms (model_opens a.k a.p))) e t c.in_ok-parts.was
