-- The word has the form, or its first character is told.
use Rattle.std.specs.Prelude.{Err}
use mathlib.Core.Path.{sym, ap, ◌∙◌}
use Rattle.records.specs.Flaws.{checked}
use Rattle.named_lines.specs.Views.{has_form}
use Rattle.named_lines.proofs.FormLaws.{word-right, word-wrong}
use Rattle.named_lines.proofs.forms.word_fault.Goals as goal

pub returns-then-not-has_form : goal.returns-then-not-has_form
returns-then-not-has_form c =
    let a = c.args in
    ap Err c.at_fault.ensures
    ∙ sym (ap checked (word-wrong (has_form a.form) a.w.now a.at _ c.word_at-word.ensures (sym c.has_form.ensures ∙ c.if-not-has_form.true)))

pub returns : goal.returns
returns c =
    let a = c.args in
    sym (ap checked (word-right (has_form a.form) a.w.now a.at _ c.word_at-word.ensures (sym c.has_form.ensures ∙ c.if-not-has_form.false)))
