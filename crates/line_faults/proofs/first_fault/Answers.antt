-- Each place by computing, the places past the third by `first-value`.
use mathlib.Core.Path.{sym, ap, ◌∙◌}
use Rattle.laws.proofs.Numbers.{apart-le}
use Rattle.records.specs.Flaws.{Flaw, told, checked}
use Rattle.line_faults.specs.Places.{first_at}
use Rattle.line_faults.proofs.Laws.{first-value}
use Rattle.line_faults.proofs.first_fault.Goals as goal

pub returns-in-0 : goal.returns-in-0
unfolding first_at
returns-in-0 c = rw c.in-0.is c.type_fault.ensures

pub returns-in-1 : goal.returns-in-1
unfolding first_at
returns-in-1 c = rw c.in-1.is c.polarity_fault.ensures

pub returns-in-2 : goal.returns-in-2
unfolding first_at
returns-in-2 c = rw c.in-2.is c.enable_fault.ensures

pub returns-in_default : goal.returns-in_default
returns-in_default c =
    let n = c.args.n in
    let w = c.args.w.now in
    c.value_fault.ensures ∙ ap (λ (f : Flaw). checked (told w f)) (sym (first-value n w (apart-le 3 n c.in_default.in_default-own.rest)))
