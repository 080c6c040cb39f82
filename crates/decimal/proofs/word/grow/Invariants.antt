-- `decimal::grow`: the number so far is the number times a ten for each turn, capped.
use Prim.Native.Nat.{◌*◌, ◌^◌, min}
use mathlib.Core.Path.{◌≡◌}
use Rattle.decimal.specs.Parts.{cap}
use Rattle.decimal.proofs.word.grow.Given as goal

abbrev pub invariant-loop : goal.invariant-loop
invariant-loop l = l.grown ≡ min (l.number * 10 ^ l.counter) cap
