-- By cases on the keyword: [File Rev] is not empty.
use Rattle.std.specs.Prelude.{Err}
use mathlib.Core.Path.{sym, ap, ◌∙◌}
use native.Mathlib.Omega.{arith}
use lib.ListN.{length, drop, length-drop}
use borrow.Author.Tests.{eq-eqb}
use Rattle.laws.proofs.Tests.{cond_yes}
use Rattle.records.specs.Flaws.{Flaw, told, checked}
use Rattle.line_rules.proofs.Told.{ten-at}
use Rattle.header_steps.proofs.part_fault.Goals as goal

pub returns-in-FileName : goal.returns-in-FileName
returns-in-FileName c = rw c.in-FileName.is c.argument_fault.ensures

pub returns-else-at-w : goal.returns-else-at-w
returns-else-at-w c =
    let w = c.args.w.now in
    let at = c.args.at in
    rw c.in-FileRev.is
    (ap Err c.at_fault.ensures
    ∙ sym (ap (λ (f : Flaw). checked (told w f)) (cond_yes _ _ (eq-eqb (length (drop at w)) 0 (omega (arith, length-drop at w, c.if-at-w.false)))) ∙ ap checked (ten-at w at c.requires)))
