-- Another line, no word of the table's, or one of them.
use Rattle.std.specs.Prelude.{None}
use mathlib.Core.Path.{sym, ◌∙◌}
use borrow.Author.Tests.{eq-eqb, ne_eqb}
use Rattle.laws.proofs.Tests.{cond_yes, cond_no, impossible}
use Rattle.line_rules.specs.Fields.{word_line}
use Rattle.line_rules.specs.Tables.{polarities}
use Rattle.named_lines.proofs.TableLaws.{polarity-given}
use Rattle.model_record.proofs.FirstLaws.{word_some, word_none}
use Rattle.model_record.proofs.firsts.polarity_after.Goals as goal

pub returns-then-n-ne1 : goal.returns-then-n-ne1
returns-then-n-ne1 c = sym (cond_no _ _ (ne_eqb _ _ c.if-n-ne1.true))

pub returns-in-None : goal.returns-in-None
returns-in-None c =
    let w = c.args.w.now in
    word_none None c.args.before (word_line polarities w) (polarity-given w) c.polarity_of.ensures c.in-None.is
    ∙ sym (cond_yes _ _ (eq-eqb _ _ c.if-n-ne1.false))

pub returns-in-Some : goal.returns-in-Some
returns-in-Some c =
    let w = c.args.w.now in
    word_some None c.args.before (word_line polarities w) (polarity-given w) c.polarity_of.ensures c.in-Some.is (λ q. impossible cc)
    ∙ sym (cond_yes _ _ (eq-eqb _ _ c.if-n-ne1.false))
