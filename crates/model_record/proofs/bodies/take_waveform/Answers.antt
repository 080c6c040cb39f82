-- The waveform with as many rows as are written, four words each: `wave-takes`.
use native.Mathlib.Omega.{arith}
use Rattle.model_record.proofs.Takes.{rows_are, wave-takes}
use Rattle.model_record.proofs.bodies.take_waveform.Goals as goal

pub with_waveform-requires : goal.with_waveform-requires
with_waveform-requires c =
    let f = c.fill_waveform-read.ensures.fill_is in
    (omega (arith, rows_are f, f.bounded, f.stops.placed.within, c.requires.placed.1, c.well_formed), omega (arith, c.requires.placed.0.within, c.requires.placed.2, c.well_formed))

pub returns : goal.returns
returns c = λ w. wave-takes c.fill_waveform-read.ensures.fill_is c.args.b c.requires.placed.1 c.requires.placed.2 w c.args.edge _ c.with_waveform.ensures _ c.fill_waveform-read.ensures.waveform_value
