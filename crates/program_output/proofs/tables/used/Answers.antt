-- So many words from the front.
use Prim.Native.Nat.{ℕ, ◌-◌}
use mathlib.Core.Path.{◌≡◌, ap, ◌∙◌}
use lib.ListN.{take}
use native.Mathlib.Omega.{arith}
use Rattle.program_output.proofs.tables.used.Goals as goal

pub returns : goal.returns
returns c =
    let z : c.words_in-n.result - 0 ≡ c.words_in-n.result = omega arith in
    ap (λ (n : ℕ). take n c.args.table.now) (z ∙ c.words_in-n.ensures.value)
