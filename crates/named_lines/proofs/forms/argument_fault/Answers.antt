-- The word has not the form, or what follows it is told.
use Rattle.std.specs.Prelude.{Err}
use mathlib.Core.Path.{sym, ap, ◌∙◌}
use Rattle.records.specs.Flaws.{checked}
use Rattle.named_lines.specs.Views.{has_form}
use Rattle.named_lines.proofs.FormLaws.{argument-right, argument-wrong}
use Rattle.named_lines.proofs.forms.argument_fault.Goals as goal

pub returns-then-not-has_form : goal.returns-then-not-has_form
returns-then-not-has_form c =
    let a = c.args in
    ap Err c.at_fault.ensures
    ∙ sym (ap checked (argument-wrong (has_form a.form) a.w.now a.at _ c.word_at-word.ensures (sym c.has_form.ensures ∙ c.if-not-has_form.true)))

pub returns : goal.returns
returns c =
    let a = c.args in
    c.surplus_fault.ensures
    ∙ sym (ap checked (argument-right (has_form a.form) a.w.now a.at _ c.word_at-word.ensures _ (sym c.has_form.ensures ∙ c.if-not-has_form.false) c.skip_blanks.ensures.value))
