-- By whether it is given.
use mathlib.Core.Path.{sym, ap}
use Rattle.rules.specs.Types.{filled}
use Rattle.rules.proofs.types.filled.Goals as goal

pub returns-in-Number : goal.returns-in-Number
returns-in-Number c = sym (ap (filled c.args.default) c.in-Number.is)

pub returns-in-Missing : goal.returns-in-Missing
returns-in-Missing c = sym (ap (filled c.args.default) c.in-Missing.is)
