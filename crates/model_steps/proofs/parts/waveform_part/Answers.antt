-- An argument with a fault, too many waveforms; else on.
use Prim.Native.Nat.{ℕ}
use mathlib.Core.Path.{ap, ◌∙◌}
use mathlib.Core.List.{List}
use Rattle.records.specs.Flaws.{told, checked}
use borrow.Author.Tests.{le-leb, lt-leb}
use Rattle.rules.specs.Model.{model_flaw, waveform_part}
use Rattle.rules.proofs.Going.{refused, passed, flawed, flawless}
use Rattle.model_steps.proofs.parts.waveform_part.Goals as goal

pub returns-in_err-at_line : goal.returns-in_err-at_line
unfolding waveform_part
returns-in_err-at_line c =
    let e = c.model_fault.ensures ∙ ap (λ (v : List ℕ). checked (told c.args.w.now (model_flaw v c.args.p))) c.requires.text in
    flawed _ _ _ e c.at_line.ensures _ c.from_residual.ensures.1 c.in_err-at_line.was

pub returns-then-m-ge-MOST_WAVEFORMS : goal.returns-then-m-ge-MOST_WAVEFORMS
unfolding waveform_part
returns-then-m-ge-MOST_WAVEFORMS c =
    let e = c.model_fault.ensures ∙ ap (λ (v : List ℕ). checked (told c.args.w.now (model_flaw v c.args.p))) c.requires.text in
    c.stopped.ensures
    ∙ refused 17 _ _ (le-leb 16 c.args.m.waveforms c.if-m-ge-MOST_WAVEFORMS.true)
    ∙ flawless _ _ _ e c.at_line.ensures c.in_ok-at_line.was

pub returns : goal.returns
unfolding waveform_part
returns c =
    let e = c.model_fault.ensures ∙ ap (λ (v : List ℕ). checked (told c.args.w.now (model_flaw v c.args.p))) c.requires.text in
    rw c.model_opens.ensures
    (passed 17 _ _ (lt-leb 16 c.args.m.waveforms c.if-m-ge-MOST_WAVEFORMS.false)
    ∙ flawless _ _ _ e c.at_line.ensures c.in_ok-at_line.was)
