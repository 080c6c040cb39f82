-- The argument is `5.0`, or not: `flawed`, `flawless`.
use Prim.Native.Nat.{ℕ}
use mathlib.Core.Path.{ap, ◌∙◌}
use mathlib.Core.List.{List}
use Rattle.records.specs.Flaws.{flaw_in, told, checked}
use Rattle.line_rules.specs.Fields.{alone, passing, is_version}
use Rattle.rules.specs.Header.{version}
use Rattle.rules.proofs.Going.{flawed, flawless}
use Rattle.header_steps.proofs.open_header.Goals as goal

pub argument_fault-requires : goal.argument_fault-requires
argument_fault-requires c = c.requires.within

pub returns-in_err-at_line : goal.returns-in_err-at_line
unfolding version
returns-in_err-at_line c =
    let e = c.argument_fault.ensures ∙ ap (λ (v : List ℕ). checked (told c.args.w.now (flaw_in (alone (passing is_version) v)))) c.requires.text in
    flawed _ _ _ e c.at_line.ensures _ c.from_residual.ensures.1 c.in_err-at_line.was

pub returns : goal.returns
unfolding version
returns c =
    let e = c.argument_fault.ensures ∙ ap (λ (v : List ℕ). checked (told c.args.w.now (flaw_in (alone (passing is_version) v)))) c.requires.text in
    rw c.none.ensures (flawless _ _ _ e c.at_line.ensures c.in_ok-at_line.was)
