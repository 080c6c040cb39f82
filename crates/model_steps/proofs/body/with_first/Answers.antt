-- Field by field, each by the line's name.
use Rattle.line_rules.specs.Fields.{word_line, number_line}
use Rattle.line_rules.specs.Tables.{model_types}
use Rattle.rules.specs.Model.{with_first}
use Rattle.model_steps.proofs.Laws.{takes-type, takes-vinl, takes-vinh}
use Rattle.model_steps.proofs.body.with_first.Goals as goal

pub returns : goal.returns
unfolding with_first
returns c =
    let a = c.args in
    let at = c.requires in
    rw (
      c.type_after.ensures,
      takes-type (word_line model_types) a.m.kind a.w.now a.n at,
      c.number_after.ensures,
      takes-vinl number_line a.m.vinl a.w.now a.n at,
      c.number_after-2.ensures,
      takes-vinh number_line a.m.vinh a.w.now a.n at,
    )
