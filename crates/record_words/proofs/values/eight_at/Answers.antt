-- The eight bytes are summed in another order.
use Prim.Native.Nat.{◌+◌}
use mathlib.Core.Path.{◌≡◌}
use native.Mathlib.Omega.{arith}
use Rattle.record_words.specs.Values.{eight_at}
use Rattle.record_words.proofs.values.eight_at.Goals as goal

pub returns : goal.returns
unfolding eight_at
returns c =
    let i = c.args.i in
    let e₃ : i + 2 + 1 ≡ i + 3 = omega arith in
    let e₅ : i + 4 + 1 ≡ i + 5 = omega arith in
    let e₆ : i + 4 + 2 ≡ i + 6 = omega arith in
    let e₇ : i + 6 + 1 ≡ i + 7 = omega arith in
    rw (c.from_le_bytes.ensures, e₃, e₅, e₆, e₇) (omega arith)
