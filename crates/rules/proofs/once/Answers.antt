-- Given before, a fault of its own, or given.
use Rattle.std.specs.Prelude.{Result, Err}
use mathlib.Core.Path.{sym, ap, ◌∙◌}
use Rattle.laws.proofs.Handed.{handed_on}
use Rattle.laws.proofs.Tests.{cond_yes, cond_no}
use Rattle.records.specs.Flaws.{at_line}
use Rattle.records.specs.declared.Fault.{Fault}
use Rattle.records.specs.declared.LineFault.{LineFault}
use Rattle.given.specs.Given.{with}
use Rattle.rules.specs.Going.{giving, given_once}
use Rattle.rules.proofs.once.Goals as goal

pub returns-then-is_given : goal.returns-then-is_given
unfolding given_once
returns-then-is_given c =
    ap Err (c.at_line.ensures ∙ ap (λ (f : LineFault). at_line c.args.k f) c.bare_fault.ensures)
    ∙ sym (cond_yes _ _ (sym c.is_given.ensures ∙ c.if-is_given.true))

pub returns-in_err-at_line : goal.returns-in_err-at_line
unfolding given_once
returns-in_err-at_line c =
    handed_on _ c.from_residual.ensures.1
    ∙ ap (λ (a : Result (Unit {0}) Fault). giving (with c.args.g c.args.n) a) (sym c.in_err-at_line.was ∙ c.at_line-2.ensures)
    ∙ sym (cond_no _ _ (sym c.is_given.ensures ∙ c.if-is_given.false))

pub returns : goal.returns
unfolding given_once
returns c =
    rw c.also.ensures
    (ap (λ (a : Result (Unit {0}) Fault). giving (with c.args.g c.args.n) a) (sym c.in_ok-at_line.was ∙ c.at_line-2.ensures)
    ∙ sym (cond_no _ _ (sym c.is_given.ensures ∙ c.if-is_given.false)))
