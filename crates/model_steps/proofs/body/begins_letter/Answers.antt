-- By whether there is a first word.
use mathlib.Core.Path.{sym, ap, ◌∙◌}
use borrow.Author.Tests.{le-ltb}
use Rattle.rules.specs.Model.{begins_letter}
use Rattle.rules.proofs.Letters.{begins-none, begins-some}
use Rattle.model_steps.proofs.body.begins_letter.Goals as goal

pub returns-then-first : goal.returns-then-first
returns-then-first c = c.letter.ensures ∙ sym (ap begins_letter (sym c.first_word-first.ensures.text) ∙ begins-some c.args.w.now _ _ c.if-first.true c.first_word-first.ensures.ends)

pub returns-else-first : goal.returns-else-first
returns-else-first c =
    le-ltb _ _ c.if-first.false
    ∙ sym (ap begins_letter (sym c.first_word-first.ensures.text) ∙ begins-none c.args.w.now _ _ c.if-first.false c.first_word-first.ensures.ends)
