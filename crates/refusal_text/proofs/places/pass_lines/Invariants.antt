-- At each turn the reader stands behind as many lines as were handed out.
use mathlib.Core.Path.{◌≡◌}
use Rattle.refusal_text.specs.Places.{place_behind}
use Rattle.refusal_text.proofs.places.pass_lines.Given as goal

abbrev pub invariant-loop : goal.invariant-loop
invariant-loop l = (l.reader.src.now ≡ l.src) × (l.reader.at ≡ place_behind l.src l.counter)
