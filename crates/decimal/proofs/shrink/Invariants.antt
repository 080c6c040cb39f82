-- `decimal::shrink`: dividing by ten and then by what is left is dividing by the whole power.
use Prim.Native.Nat.{◌-◌, ◌/◌, ◌^◌}
use mathlib.Core.Path.{◌≡◌}
use Rattle.decimal.proofs.shrink.Given as goal

abbrev pub invariant-loop : goal.invariant-loop
invariant-loop l = l.rest / 10 ^ (l.count - l.counter) ≡ l.number / 10 ^ l.count
