-- Given before, a fault of the argument, or on: `once-stopped`, `once-given`.
use Rattle.std.specs.Prelude.{leb}
use Prim.Native.Nat.{ℕ}
use mathlib.Core.Path.{ap, ◌∙◌}
use mathlib.Core.List.{List}
use Rattle.records.specs.Flaws.{told, checked}
use Rattle.rules.specs.Going.{given_once}
use Rattle.rules.specs.Header.{header_place, header_flaw, header_part}
use Rattle.rules.specs.declared.Stage.TheVariants.{InHeader}
use Rattle.rules.proofs.Going.{once-stopped, once-given}
use Rattle.header_steps.proofs.header_part.Goals as goal

pub returns-in_err-parts : goal.returns-in_err-parts
unfolding header_part
returns-in_err-parts c =
    let a = c.args in
    let e = c.part_fault.ensures ∙ ap (λ (v : List ℕ). checked (told a.w.now (header_flaw v a.p))) c.requires.text in
    let t = c.once.ensures ∙ ap (λ (i : ℕ). given_once a.h.parts i a.k c.part_fault.result) c.part_place-place.ensures in
    once-stopped _ _ _ _ (λ g. InHeader (record { line = a.h.line; text = leb 2 (header_place a.p); parts = g })) e t _ c.from_residual.ensures.1 c.in_err-parts.was

pub returns : goal.returns
unfolding header_part
returns c =
    let a = c.args in
    let e = c.part_fault.ensures ∙ ap (λ (v : List ℕ). checked (told a.w.now (header_flaw v a.p))) c.requires.text in
    let t = c.once.ensures ∙ ap (λ (i : ℕ). given_once a.h.parts i a.k c.part_fault.result) c.part_place-place.ensures in
    rw c.part_place-place.ensures
    (once-given _ _ _ _ (λ g. InHeader (record { line = a.h.line; text = leb 2 (header_place a.p); parts = g })) e t c.in_ok-parts.was)
