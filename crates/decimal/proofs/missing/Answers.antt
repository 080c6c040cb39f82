-- `decimal::missing`: NA has two bytes, and each byte has its capital.
use Rattle.std.proofs.Common.{rules}
use Rattle.decimal.proofs.Cells.{missing-other, missing-yes, missing-first, missing-second}
use Rattle.decimal.proofs.missing.Goals as goal

pub returns-in-78 : goal.returns-in-78
returns-in-78 c = search (rules, missing-yes)

pub returns-in_default : goal.returns-in_default
returns-in_default c = search (rules, missing-other)

pub returns-in_default-2 : goal.returns-in_default-2
returns-in_default-2 c = search (rules, missing-second)

pub returns-in_default-3 : goal.returns-in_default-3
returns-in_default-3 c = search (rules, missing-first)

pub returns-in_default-4 : goal.returns-in_default-4
returns-in_default-4 c = search (rules, missing-other)
