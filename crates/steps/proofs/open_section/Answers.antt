-- The name passes or is told: `flawed`, `flawless`.
use Rattle.std.specs.Prelude.{Ok}
use Prim.Native.Nat.{ℕ}
use mathlib.Core.List.{List}
use mathlib.Core.Path.{ap, ◌∙◌}
use Rattle.records.specs.Flaws.{told, checked}
use Rattle.rules.specs.Steps.{opened_flaw, opened}
use Rattle.rules.specs.declared.Stage.{Stage}
use Rattle.rules.specs.declared.Event.TheVariants.{Opened}
use Rattle.rules.proofs.Going.{flawed, flawless}
use Rattle.steps.proofs.open_section.Goals as goal

pub returns-in_err-at_line : goal.returns-in_err-at_line
unfolding opened
returns-in_err-at_line c =
    let e = c.section_fault.ensures ∙ ap (λ (v : List ℕ). checked (told c.args.w.now (opened_flaw v c.args.o))) c.requires.text in
    flawed _ _ _ e c.at_line.ensures _ c.from_residual.ensures.1 c.in_err-at_line.was

pub returns : goal.returns
unfolding opened
returns c =
    let e = c.section_fault.ensures ∙ ap (λ (v : List ℕ). checked (told c.args.w.now (opened_flaw v c.args.o))) c.requires.text in
    ap (λ (s : Stage). Ok (s, Opened c.args.o)) c.section_stage.ensures ∙ flawless _ _ _ e c.at_line.ensures c.in_ok-at_line.was
