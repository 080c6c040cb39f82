-- A fold over the lines, `site-fold`, whose step the closure makes.
use Rattle.std.proofs.Common.{rules, of_calls}
use Rattle.component_records.proofs.Lines.{site-fold}
use Rattle.component_records.proofs.lists.Sites.under.Goals as goal

pub returns-clause-sites : goal.returns-clause-sites
returns-clause-sites c = c.fold_lines.ensures.folded _ _ site-fold (record { makes = λ x w y e. search (rules, of_calls, e) })
