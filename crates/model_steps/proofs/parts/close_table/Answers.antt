-- The table has a fault, or closes: `flawed`, `flawless`.
use mathlib.Core.Path.{◌∙◌}
use Rattle.records.specs.Flaws.{bare}
use Rattle.rules.specs.Going.{unless, passes}
use Rattle.rules.specs.Model.{table_fault}
use Rattle.rules.proofs.Going.{flawed, flawless}
use Rattle.model_steps.proofs.parts.close_table.Goals as goal

pub returns-in_err-at_line : goal.returns-in_err-at_line
unfolding unless passes
returns-in_err-at_line c = flawed (bare (table_fault c.args.most c.args.rows)) _ _ c.table_fault.ensures c.at_line.ensures _ c.from_residual.ensures.1 c.in_err-at_line.was

pub returns : goal.returns
unfolding unless passes
returns c = c.closed.ensures ∙ flawless (bare (table_fault c.args.most c.args.rows)) _ _ c.table_fault.ensures c.at_line.ensures c.in_ok-at_line.was
