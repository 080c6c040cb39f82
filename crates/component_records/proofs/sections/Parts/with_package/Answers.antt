-- The lines under [Package]; behind them the same keywords follow.
use native.Mathlib.Omega.{arith}
use Rattle.lines_under.proofs.Keyed.{keys-stop}
use Rattle.component_records.proofs.sections.Parts.with_package.Goals as goal

pub returns : goal.returns
returns c =
    let b = c.under.ensures in
    λ w.
    record {
      parts = rw b.boxes;
      keys = keys-stop b.stops;
      placed = b.stops.placed;
      rises = b.stops.rises;
      bounded = omega (arith, c.requires.pins_le_at, b.stops.rises);
    }
