-- By whether the key was seen.
use mathlib.Core.Path.{sym, ◌∙◌}
use Rattle.laws.proofs.Tests.{cond_yes, cond_no}
use Rattle.name_checks.proofs.seen.to_meet.Goals as goal

pub returns-then-is_seen : goal.returns-then-is_seen
returns-then-is_seen c = sym (cond_yes c.args.i 0 (sym c.is_seen.ensures ∙ c.if-is_seen.true))

pub returns : goal.returns
returns c = sym (cond_no c.args.i 0 (sym c.is_seen.ensures ∙ c.if-is_seen.false))
