-- By the place: C_comp and its four parts stand before the eighth.
use mathlib.Core.Path.{sym, ap, ◌∙◌}
use borrow.Author.Tests.{lt-ltb, le-ltb}
use Rattle.laws.proofs.Tests.{cond_yes, cond_no}
use Rattle.records.specs.Flaws.{Flaw, told, checked}
use Rattle.line_faults.specs.Places.{value_at}
use Rattle.line_faults.proofs.value_fault.Goals as goal

pub returns-then-n-lt8 : goal.returns-then-n-lt8
unfolding value_at
returns-then-n-lt8 c = c.cells_fault.ensures ∙ ap (λ (f : Flaw). checked (told c.args.w.now f)) (sym (cond_yes _ _ (lt-ltb _ 8 c.if-n-lt8.true)))

pub returns : goal.returns
unfolding value_at
returns c = c.number_fault.ensures ∙ ap (λ (f : Flaw). checked (told c.args.w.now f)) (sym (cond_no _ _ (le-ltb _ 8 c.if-n-lt8.false)))
