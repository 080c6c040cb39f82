-- A fold over the lines, `box-fold`, whose step the closure makes.
use Rattle.std.proofs.Common.{rules, of_calls}
use Rattle.component_records.proofs.Lines.{box-fold}
use Rattle.component_records.proofs.lists.Boxes.under.Goals as goal

pub returns-clause-boxes : goal.returns-clause-boxes
returns-clause-boxes c = c.fold_lines.ensures.folded _ _ box-fold (record { makes = λ x w y e. search (rules, of_calls, e) })
