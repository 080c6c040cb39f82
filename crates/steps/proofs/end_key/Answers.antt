-- The last section closes, or not: what `close_section` answers is `done`. The fault of the line is none or its own, `surplus-own`.
use Rattle.std.specs.Prelude.{Option, Result, Ok}
use Rattle.std.specs.Option.{unwrap_or}
use Rattle.std.specs.Result.{result_err}
use Prim.Native.Nat.{ℕ}
use mathlib.Core.List.{List}
use mathlib.Core.Path.{refl, sym, ap, ◌∙◌}
use Rattle.laws.proofs.Handed.{handed_on}
use Rattle.records.specs.Flaws.{told, checked, bare}
use Rattle.records.specs.declared.LineFault.{LineFault}
use Rattle.line_rules.specs.Fields.{no_argument}
use Rattle.rules.specs.declared.Stage.TheVariants.{AfterEnd}
use Rattle.rules.specs.declared.Event.TheVariants.{Ended}
use Rattle.steps.proofs.Laws.{surplus-own}
use Rattle.steps.proofs.end_key.Goals as goal

pub surplus_fault-requires : goal.surplus_fault-requires
surplus_fault-requires c = c.requires.within

pub returns-in_err-close_section : goal.returns-in_err-close_section
returns-in_err-close_section c = handed_on _ c.from_residual.ensures.1 ∙ rw (sym c.close_section.ensures, c.in_err-close_section.was) refl

pub returns : goal.returns
returns c =
    let w = c.args.w.now in
    let own =
    c.unwrap_or-told.ensures
    ∙ ap (λ (o : Option LineFault). unwrap_or o c.bare_fault.result) c.err-fault.ensures.value
    ∙ ap (λ (f : LineFault). unwrap_or (result_err c.surplus_fault.result) f) c.bare_fault.ensures
    ∙ ap (λ (r : Result (Unit {0}) LineFault). unwrap_or (result_err r) (bare 0)) (c.surplus_fault.ensures ∙ ap (λ (v : List ℕ). checked (told w (no_argument v))) c.requires.text)
    ∙ surplus-own w _ in
    rw (sym c.close_section.ensures, c.in_ok-close_section.was) (ap (λ (f : LineFault). Ok (AfterEnd, Ended f)) own)
