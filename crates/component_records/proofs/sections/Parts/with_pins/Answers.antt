-- The lines under [Pin]; behind them the same keywords follow.
use native.Mathlib.Omega.{arith}
use Rattle.lines_under.proofs.Keyed.{keys-stop}
use Rattle.component_records.proofs.sections.Parts.with_pins.Goals as goal

pub returns : goal.returns
returns c =
    let l = c.count_lines-lines.ensures in
    λ w.
    record {
      parts = rw l.count;
      keys = keys-stop l.stops;
      placed = l.stops.placed;
      rises = l.stops.rises;
      bounded = omega (arith, c.requires.pins_le_at, l.bounded);
    }
