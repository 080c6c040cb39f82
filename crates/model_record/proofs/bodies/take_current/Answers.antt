-- As many rows are counted as are written, four words each: `current-takes`.
use native.Mathlib.Omega.{arith}
use Rattle.model_record.proofs.Takes.{rows_are, current-takes}
use Rattle.model_record.proofs.bodies.take_current.Goals as goal

pub with_current-requires : goal.with_current-requires
with_current-requires c =
    let f = c.fill_table-filled.ensures in
    omega (arith, rows_are f, f.bounded, f.stops.placed.within, c.requires.placed.1, c.well_formed)

pub returns : goal.returns
returns c = λ w. current-takes c.fill_table-filled.ensures c.args.b c.requires.placed.1 c.requires.placed.2 w c.args.table _ c.with_current.ensures c.no_waveform.ensures
