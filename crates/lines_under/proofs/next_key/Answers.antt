-- The keywords from this cursor on are those from the first: `sought-change` and `sought-none` at a turn.
use Rattle.std.specs.Prelude.{Result}
use Prim.Native.Nat.{ℕ}
use mathlib.Core.Path.{sym, ap, ◌∙◌}
use native.Mathlib.Omega.{arith}
use Rattle.keywords.specs.Answers.{keyword_says}
use Rattle.keywords.specs.declared.Keyword.{Keyword}
use Rattle.keywords.specs.declared.KeyFault.{KeyFault}
use Rattle.rules.specs.Keys.{key_in}
use Rattle.lines_under.proofs.Laws.{sought-change, sought-none, sought-within, sought-found, sought-out}
use Rattle.lines_under.proofs.next_key.Goals as goal

pub overflow_add-from : goal.overflow_add-from
overflow_add-from c = omega (arith, sought-within c.loop-line.invariant c.in-Text.ensures (sym c.key_in.ensures ∙ c.in-Ok.is), c.in-Text.ensures.fits)

pub returns-in-Ok : goal.returns-in-Ok
returns-in-Ok c = sought-found c.loop-line.invariant c.in-Text.ensures (sym c.key_in.ensures ∙ c.in-Ok.is)

pub loop-line-preserved-in-Err : goal.loop-line-preserved-in-Err
loop-line-preserved-in-Err c =
    sought-none c.loop-line.invariant c.in-Text.ensures (ap (λ (x : Result (Keyword × ℕ) KeyFault). key_in (keyword_says x)) (sym c.key_in.ensures ∙ c.in-Err.is))

pub loop-line-preserved : goal.loop-line-preserved
loop-line-preserved c = sought-change c.loop-line.invariant c.in-Change.ensures

pub returns-in-Out : goal.returns-in-Out
returns-in-Out c = sought-out c.loop-line.invariant c.in-Out.ensures
