-- By 0 nothing is divided.
use Prim.Native.Nat.{ℕ, ◌/◌}
use mathlib.Core.Path.{sym, ap, ◌∙◌}
use lib.ListN.{length}
use native.Mathlib.Nat.{div-zero}
use Rattle.program_output.proofs.tables.records_in.Goals as goal

pub returns-then-size-eq0 : goal.returns-then-size-eq0
returns-then-size-eq0 c = sym (ap (λ (n : ℕ). length c.args.table.now / n) c.if-size-eq0.true ∙ div-zero (length c.args.table.now))
