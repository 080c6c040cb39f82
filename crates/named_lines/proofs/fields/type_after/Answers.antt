-- Another line, a type of the table's, or none of them.
use mathlib.Core.Path.{sym, ◌∙◌}
use borrow.Author.Tests.{eq-eqb, ne_eqb}
use Rattle.laws.proofs.Tests.{cond_yes, cond_no}
use Rattle.named_lines.proofs.TypeLaws.{type-some, type-none}
use Rattle.named_lines.proofs.fields.type_after.Goals as goal

pub returns-then-n-ne0 : goal.returns-then-n-ne0
returns-then-n-ne0 c = sym (cond_no _ _ (ne_eqb _ _ c.if-n-ne0.true))

pub returns-in-Ok : goal.returns-in-Ok
returns-in-Ok c = type-some c.args.before c.args.w.now c.type_of.ensures c.in-Ok.is ∙ sym (cond_yes _ _ (eq-eqb _ _ c.if-n-ne0.false))

pub returns-in-Err : goal.returns-in-Err
returns-in-Err c = type-none c.args.before c.args.w.now c.type_of.ensures c.in-Err.is ∙ sym (cond_yes _ _ (eq-eqb _ _ c.if-n-ne0.false))
