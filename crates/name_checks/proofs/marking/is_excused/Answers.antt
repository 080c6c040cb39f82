-- By the kind: a pin's word decides.
use mathlib.Core.Path.{refl, ap, ◌∙◌}
use Rattle.line_rules.specs.Fields.{needs_no_model}
use Rattle.name_checks.proofs.NoteLaws.{model-said}
use Rattle.name_checks.proofs.TargetLaws.{excused-pin, excused-other}
use Rattle.name_checks.proofs.marking.is_excused.Goals as goal

pub returns-then-k-eq-OF_PIN : goal.returns-then-k-eq-OF_PIN
returns-then-k-eq-OF_PIN c =
    let a = c.args in
    excused-pin a.src.now a.notes.now a.i c.kind_at-k.result c.kind_at-k.ensures c.needs_no_model.result c.if-k-eq-OF_PIN.true
    (c.needs_no_model.ensures ∙ ap needs_no_model (c.within-w.ensures.same ∙ model-said a.src.now a.notes.now c.part_at.result a.i c.part_at.ensures))

pub returns : goal.returns
returns c =
    let a = c.args in
    excused-other a.src.now a.notes.now a.i c.kind_at-k.result c.kind_at-k.ensures _ c.if-k-eq-OF_PIN.false refl
