-- The argument is fair, so the fault of what is told is what its check answers.
use mathlib.Core.Path.{sym, ap, ◌∙◌}
use lib.ListN.{drop}
use Rattle.laws.proofs.Handed.{handed_on}
use Rattle.line_rules.proofs.Fair.{heading-fair, fault_of, fair-checked}
use Rattle.line_faults.proofs.heading_fault.Goals as goal

pub returns-in_err-heading_of : goal.returns-in_err-heading_of
returns-in_err-heading_of c =
    handed_on _ c.from_residual.ensures.1 ∙ ap fault_of (sym c.in_err-heading_of.was ∙ c.heading_of.ensures) ∙ fair-checked _ (heading-fair (drop c.args.at c.args.w.now))

pub returns : goal.returns
returns c = ap fault_of (sym c.in_ok-heading_of.was ∙ c.heading_of.ensures) ∙ fair-checked _ (heading-fair (drop c.args.at c.args.w.now))
