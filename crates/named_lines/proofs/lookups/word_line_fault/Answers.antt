-- The word is fair, so the fault of what is told is what its check answers.
use mathlib.Core.Path.{sym, ap, ◌∙◌}
use Rattle.laws.proofs.Handed.{handed_on}
use Rattle.line_rules.proofs.Fair.{fault_of, fair-checked}
use Rattle.named_lines.proofs.TableLaws.{place-fair}
use Rattle.named_lines.proofs.lookups.word_line_fault.Goals as goal

pub returns-in_err-listed_word : goal.returns-in_err-listed_word
returns-in_err-listed_word c =
    handed_on _ c.from_residual.ensures.1 ∙ ap fault_of (sym c.in_err-listed_word.was ∙ c.listed_word.ensures) ∙ fair-checked _ (place-fair c.args.list c.args.w.now)

pub returns : goal.returns
returns c = ap fault_of (sym c.in_ok-listed_word.was ∙ c.listed_word.ensures) ∙ fair-checked _ (place-fair c.args.list c.args.w.now)
