-- The first of all, one more in the header, or one later: `not-header`.
use Rattle.std.specs.Prelude.{Option}
use borrow.Enum.Refused.{opened}
use mathlib.Core.Path.{sym, ap, ◌∙◌}
use Rattle.laws.proofs.Tests.{cond_yes, cond_no}
use Rattle.rules.specs.Going.{stop}
use Rattle.rules.specs.Steps.{header_of, within, on_version}
use Rattle.rules.specs.declared.HeaderState.{HeaderState}
use Rattle.rules.specs.declared.Stage.{Stage}
use Rattle.steps.proofs.Laws.{not-header}
use Rattle.steps.proofs.version_key.Goals as goal

pub open_header-requires : goal.open_header-requires
open_header-requires c = c.requires

pub returns-then-is_before : goal.returns-then-is_before
unfolding on_version
returns-then-is_before c = c.open_header.ensures ∙ sym (cond_yes _ _ (sym c.is_before.ensures ∙ c.if-is_before.true))

pub returns-in_default : goal.returns-in_default
unfolding on_version
returns-in_default c =
    let a = c.args in
    c.stopped.ensures
    ∙ sym (ap (λ (o : Option HeaderState). within a.k o (λ h. stop 8 a.k)) (not-header a.s (opened c.in_default.in_default-own.keys2)))
    ∙ sym (cond_no _ _ (sym c.is_before.ensures ∙ c.if-is_before.false))

pub returns : goal.returns
unfolding on_version
returns c =
    let k = c.args.k in
    c.stopped-2.ensures
    ∙ sym (ap (λ (s : Stage). within k (header_of s) (λ h. stop 8 k)) c.in-InHeader.is)
    ∙ sym (cond_no _ _ (sym c.is_before.ensures ∙ c.if-is_before.false))
