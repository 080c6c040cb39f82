-- By the kind, and by the mark.
use mathlib.Core.Path.{sym, ◌∙◌}
use Rattle.name_checks.proofs.MarkLaws.{unmarked-kept, unmarked-told, unmarked-other}
use Rattle.name_checks.proofs.marking.unlisted_at.Goals as goal

pub returns-then-marks-j-eq1 : goal.returns-then-marks-j-eq1
returns-then-marks-j-eq1 c =
    let a = c.args in
    unmarked-kept a.notes.now a.marks.now a.j c.kind_at.result a.later c.kind_at.ensures (sym c.model_or_selector.ensures ∙ c.if-model_or_selector.true) c.if-marks-j-eq1.true

pub returns-then-model_or_selector : goal.returns-then-model_or_selector
returns-then-model_or_selector c =
    let a = c.args in
    unmarked-told a.notes.now a.marks.now a.j c.kind_at.result a.later c.kind_at.ensures (sym c.model_or_selector.ensures ∙ c.if-model_or_selector.true) c.if-marks-j-eq1.false

pub returns : goal.returns
returns c =
    let a = c.args in
    unmarked-other a.notes.now a.marks.now a.j c.kind_at.result a.later c.kind_at.ensures (sym c.model_or_selector.ensures ∙ c.if-model_or_selector.false)
