-- By whether there is a row.
use mathlib.Core.Path.{ap}
use borrow.Author.Tests.{eq-eqb, ne_eqb}
use Rattle.records.specs.declared.Choice.{Choice}
use Rattle.questions.specs.Chosen.{first_choice}
use Rattle.questions.proofs.choices.first_choice.Goals as goal

pub returns-then-rows-eq0 : goal.returns-then-rows-eq0
unfolding first_choice
returns-then-rows-eq0 c = rw (eq-eqb c.args.rows.count 0 c.if-rows-eq0.true) c.no_name.ensures

pub returns : goal.returns
unfolding first_choice
returns c = rw (ne_eqb c.args.rows.count 0 c.if-rows-eq0.false) (ap (λ (x : Choice). x.model) c.choice_in.ensures)
