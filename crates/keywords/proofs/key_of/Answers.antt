-- The place of the first `]` is the scan's; the tests in the definition's order; where the argument begins by `key-known`.
use Rattle.std.specs.Prelude.{Err}
use Prim.Native.Nat.{ℕ, ◌<◌}
use mathlib.Core.Path.{sym, ap, subst, ◌∙◌}
use native.Mathlib.Omega.{arith}
use lib.ListN.{length-map}
use Rattle.laws.specs.Bytes.{spelled_byte}
use Rattle.laws.specs.Lists.{part}
use Rattle.keywords.specs.Form.{spelled}
use Rattle.keywords.specs.Answers.{known}
use Rattle.keywords.proofs.Laws.{key-open, key_apart, key-known, key-not-carried, key-none, closed-within}
use Rattle.keywords.proofs.Spelling.{said-too}
use Rattle.keywords.proofs.Listed.{long-none}
use Rattle.keywords.proofs.key_of.Goals as goal

pub returns-then-w-eq0 : goal.returns-then-w-eq0
returns-then-w-eq0 c = let old : _ × _ = said-too _ _ (key-none c.args.w.now c.if-w-eq0.true) in record { value = old.0; result_value = old.1 }

pub returns-then-not-closed_at : goal.returns-then-not-closed_at
returns-then-not-closed_at c = let old : _ × _ = said-too _ _ (key-open c.args.w.now _ c.find-stop.ensures.value (sym c.closed_at.ensures ∙ c.if-not-closed_at.true)) in record { value = old.0; result_value = old.1 }

pub returns-then-not-in_parts : goal.returns-then-not-in_parts
returns-then-not-in_parts c = let old : _ × _ = said-too _ _ (key_apart c.args.w.now _ c.find-stop.ensures.value (sym c.in_parts.ensures ∙ c.if-not-in_parts.true)) in record { value = old.0; result_value = old.1 }

pub returns-then-name-gt-LONGEST : goal.returns-then-name-gt-LONGEST
unfolding spelled
returns-then-name-gt-LONGEST c =
    let w = c.args.w.now in
    let name = part 1 c.find-stop.result w in
    let long = long-none (spelled name) (subst (λ (n : ℕ). 17 < n) (sym (length-map name spelled_byte)) c.if-name-gt-LONGEST.true) in
    let old : _ × _ = said-too _ _
    (key-not-carried w _ c.find-stop.ensures.value
    (sym c.closed_at.ensures ∙ c.if-not-closed_at.false)
    (sym c.in_parts.ensures ∙ c.if-not-in_parts.false)
    long
    ∙ ap Err (sym c.gap_or_slip.ensures)) in record { value = old.0; result_value = old.1 }

pub skip_blanks-requires : goal.skip_blanks-requires
skip_blanks-requires c =
    let h = closed-within c.args.w.now c.find-stop.result (sym c.closed_at.ensures ∙ c.if-not-closed_at.false) in
    omega arith

pub returns-in-Some : goal.returns-in-Some
returns-in-Some c = let old : _ × _ = said-too _ _
    (key-known c.args.w.now _ c.find-stop.ensures.value _
    (sym c.closed_at.ensures ∙ c.if-not-closed_at.false)
    (sym c.in_parts.ensures ∙ c.if-not-in_parts.false)
    c.skip_blanks.ensures.value c.skip_blanks.ensures.lower_bound.1
    ∙ ap (known _ _) (sym c.keyword_named.ensures ∙ c.in-Some.is)) in record { value = old.0; result_value = old.1 }

pub returns-in-None : goal.returns-in-None
returns-in-None c = let old : _ × _ = said-too _ _
    (key-not-carried c.args.w.now _ c.find-stop.ensures.value
    (sym c.closed_at.ensures ∙ c.if-not-closed_at.false)
    (sym c.in_parts.ensures ∙ c.if-not-in_parts.false)
    (sym c.keyword_named.ensures ∙ c.in-None.is)
    ∙ ap Err (sym c.gap_or_slip-in-None.ensures)) in record { value = old.0; result_value = old.1 }
