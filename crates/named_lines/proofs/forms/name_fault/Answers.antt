-- The first word begins where the blanks end.
use mathlib.Core.Path.{sym, ap, ◌∙◌}
use mathlib.Core.List.{List}
use Prim.Native.Nat.{ℕ}
use Rattle.records.specs.Flaws.{flaw, told}
use Rattle.words.proofs.Laws.{rest-here}
use Rattle.line_rules.proofs.Told.{ten-at}
use Rattle.named_lines.proofs.forms.name_fault.Goals as goal

pub returns : goal.returns
returns c =
    let w = c.args.w.now in
    let s = c.skip_blanks.ensures in
    c.at_fault.ensures ∙ sym (ap (λ (v : List ℕ). told w (flaw 10 v)) (rest-here w 0 _ s.value) ∙ ten-at w _ s.lower_bound.1)
