-- The scan's place ends the first part, by `file-sized` and `file-ended`.
use Prim.Native.Nat.{ℕ, ◌-◌}
use mathlib.Core.Path.{sym, ap, ◌∙◌}
use mathlib.Core.List.{List}
use native.Mathlib.Omega.{arith}
use lib.ListN.{length, drop, length-drop}
use lib.Seq.{take_all}
use Rattle.laws.specs.Bytes.{bytes}
use Rattle.laws.specs.Lists.{eqs}
use Rattle.named_lines.proofs.FormLaws.{file-sized, file-ended}
use Rattle.named_lines.proofs.forms.file_name.Goals as goal

pub returns-then-not-sized : goal.returns-then-not-sized
returns-then-not-sized c = sym (file-sized c.args.w.now _ c.skip_file_bytes-end.ensures.value (sym c.sized.ensures ∙ c.if-not-sized.true))

pub returns : goal.returns
returns c =
    let w = c.args.w.now in
    let e = c.skip_file_bytes-end.result in
    c.same.ensures
    ∙ ap (λ (x : List ℕ). eqs x (bytes ".ibs")) (take_all (length w - e) (drop e w) (omega (arith, length-drop e w)))
    ∙ sym (file-ended w e c.skip_file_bytes-end.ensures.value (sym c.sized.ensures ∙ c.if-not-sized.false))
