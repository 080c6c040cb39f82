-- By the bounds of digits and small letters; else the search stops before the end exactly if the byte is one of the marks.
use Prim.Native.Nat.{ℕ}
use mathlib.Core.Path.{◌≡◌, sym, ap, ◌∙◌}
use native.Mathlib.Omega.{arith}
use native.Mathlib.Nat.{zero-add}
use lib.ListN.{length}
use lib.Dec.{ltb}
use Rattle.laws.specs.Lists.{front, other, among}
use Rattle.laws.proofs.Fronts.{among-found}
use Rattle.line_rules.specs.Fields.{is_file_byte}
use Rattle.named_lines.proofs.FormLaws.{file_marks, file-small, file-digit, file-low, file-between, file-high}
use Rattle.named_lines.proofs.forms.file_byte.Goals as goal
use Rattle.named_lines.proofs.forms.file_byte.Goals.{in_default-via-then-b-lt48, in_default-via-else-b-lt48+else-b-lt58+then-b-lt97, in_default-via-else-b-lt48+else-b-lt58+else-b-lt97+else-b-lt123}

pub returns-in-97-to-122 : goal.returns-in-97-to-122
returns-in-97-to-122 c = sym (file-digit c.args.b c.in-97-to-122.if-b-lt48-own.false (omega arith))

pub returns-in-97-to-122-2 : goal.returns-in-97-to-122-2
returns-in-97-to-122-2 c = sym (file-small c.args.b c.in-97-to-122.if-b-lt97-own.false (omega arith))

pub returns-in_default : goal.returns-in_default
returns-in_default c =
    let b = c.args.b in
    ap (λ (n : ℕ). ltb n 16) (c.find.ensures.value ∙ zero-add (length (front (other b) file_marks)))
    ∙ sym (among-found b file_marks)
    ∙ sym (elim c.in_default.branch as (λ w. is_file_byte b ≡ among b file_marks) [
      | in_default-via-then-b-lt48 w ↦ file-low b w.if-b-lt48-1.true
      | in_default-via-else-b-lt48+else-b-lt58+then-b-lt97 w ↦ file-between b w.if-b-lt58-1.false w.if-b-lt97-1.true
      | in_default-via-else-b-lt48+else-b-lt58+else-b-lt97+else-b-lt123 w ↦ file-high b w.if-b-lt123-1.false
    ])
