-- The stage is a model's, or another: `not-model`.
use Rattle.std.specs.Prelude.{Option}
use borrow.Enum.Refused.{opened}
use mathlib.Core.Path.{sym, ap, ◌∙◌}
use Rattle.rules.specs.Model.{model_part}
use Rattle.rules.specs.Steps.{within}
use Rattle.rules.specs.declared.ModelState.{ModelState}
use Rattle.steps.proofs.Laws.{not-model}
use Rattle.steps.proofs.model_key.Goals as goal

pub returns-in_default : goal.returns-in_default
returns-in_default c =
    let a = c.args in
    c.stopped.ensures
    ∙ sym (ap (λ (o : Option ModelState). within a.k o (λ x. model_part x a.k a.w.now a.p)) (not-model a.s (opened c.in_default.in_default-own.keys2)))

pub model_part-requires : goal.model_part-requires
model_part-requires c = c.requires

pub returns : goal.returns
returns c = rw c.in-InModel.is c.model_part.ensures
