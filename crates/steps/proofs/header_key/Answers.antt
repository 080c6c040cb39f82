-- The stage is a header's, or another: `not-header`.
use Rattle.std.specs.Prelude.{Option}
use borrow.Enum.Refused.{opened}
use mathlib.Core.Path.{sym, ap, ◌∙◌}
use Rattle.rules.specs.Header.{header_part}
use Rattle.rules.specs.Steps.{within}
use Rattle.rules.specs.declared.HeaderState.{HeaderState}
use Rattle.steps.proofs.Laws.{not-header}
use Rattle.steps.proofs.header_key.Goals as goal

pub returns-in_default : goal.returns-in_default
returns-in_default c =
    let a = c.args in
    c.stopped.ensures
    ∙ sym (ap (λ (o : Option HeaderState). within a.k o (λ x. header_part x a.k a.w.now a.p)) (not-header a.s (opened c.in_default.in_default-own.keys2)))

pub header_part-requires : goal.header_part-requires
header_part-requires c = c.requires

pub returns : goal.returns
returns c = rw c.in-InHeader.is c.header_part.ensures
