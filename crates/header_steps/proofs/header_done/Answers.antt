-- Both parts were given, or not.
use Rattle.std.specs.Prelude.{Err}
use Prim.Native.Nat.{ℕ}
use mathlib.Core.Path.{◌≡◌, sym, ap, ◌∙◌}
use mathlib.Core.Bool.{false, ◌&&◌}
use Rattle.laws.proofs.Tests.{cond_yes, cond_no, and_both, and_left, and_right}
use Rattle.records.specs.Flaws.{bare, checked}
use Rattle.given.specs.Given.{has}
use Rattle.rules.specs.Header.{header_done}
use Rattle.header_steps.proofs.header_done.Goals as goal
use Rattle.header_steps.proofs.header_done.Goals.{then-not-is_given-via-then-not-is_given, then-not-is_given-via-else-not-is_given+then-not-is_given-2}

pub returns-then-not-is_given : goal.returns-then-not-is_given
unfolding header_done
returns-then-not-is_given c =
    let g = c.args.h.parts in
    let lacks : (has g 0 && has g 1) ≡ false =
    elim c.then-not-is_given.branch [
      | then-not-is_given-via-then-not-is_given w ↦ and_left (has g 0) (has g 1) (sym c.is_given.ensures ∙ w.if-not-is_given.true)
      | then-not-is_given-via-else-not-is_given+then-not-is_given-2 w ↦ and_right (has g 0) (has g 1) (sym w.is_given-else-not-is_given.ensures ∙ w.if-not-is_given-2.true)
    ] in
    ap Err c.bare_fault.ensures ∙ sym (ap (λ (n : ℕ). checked (bare n)) (cond_no 0 9 lacks))

pub returns : goal.returns
unfolding header_done
returns c =
    let g = c.args.h.parts in
    let both = and_both (has g 0) (has g 1) (sym c.is_given.ensures ∙ c.if-not-is_given.false) (sym c.is_given-else-not-is_given.ensures ∙ c.if-not-is_given-2.false) in
    sym (ap (λ (n : ℕ). checked (bare n)) (cond_yes 0 9 both))
