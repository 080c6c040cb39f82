-- By the keyword: `taken`, with what each gives; under some stand rows.
use Prim.Native.Nat.{◌≤◌}
use mathlib.Core.Path.{refl, sym, ap, ◌∙◌, subst}
use native.Mathlib.Omega.{arith}
use lib.ListN.{length}
use Rattle.keywords.specs.declared.Keyword.TheVariants.{InModel}
use Rattle.keywords.specs.declared.ModelPart.{ModelPart}
use Rattle.keywords.specs.declared.ModelPart.TheVariants.{VoltageRange, TemperatureRange, Ramp}
use Rattle.cut_lines.specs.Cursors.{rest}
use Rattle.rules.specs.Reading.{under, no_ramp}
use Rattle.records.specs.Stored.{no_cells, stored}
use Rattle.lines_under.proofs.Keyed.{keys-stop}
use Rattle.table_rows.specs.Parts.{key_rows}
use Rattle.model_record.specs.Bodies.{part_on}
use Rattle.model_record.specs.Takes.{TakesKey}
use Rattle.model_record.proofs.Takes.{taken, none-takes}
use Rattle.model_record.proofs.bodies.take_part.Goals as goal

pub take_current-requires : goal.take_current-requires
take_current-requires c =
    let a = c.args in
    record {
      placed = c.requires.placed;
      c_in_bounds = subst (λ (p : ModelPart). length (stored (key_rows (InModel p) (under (rest a.src.now a.c)))) ≤ length a.rows.now) c.in-Current.is c.requires.c_in_bounds;
    }

pub ramp_lines-read-requires : goal.ramp_lines-read-requires
ramp_lines-read-requires c = c.requires.placed.0

pub take_waveform-requires : goal.take_waveform-requires
take_waveform-requires c =
    let a = c.args in
    record {
      placed = c.requires.placed;
      c_in_bounds = subst (λ (p : ModelPart). length (stored (key_rows (InModel p) (under (rest a.src.now a.c)))) ≤ length a.rows.now) c.in-Waveform.is c.requires.c_in_bounds;
    }

pub returns-in-VoltageRange : goal.returns-in-VoltageRange
returns-in-VoltageRange c =
    let a = c.args in
    let p = c.requires.placed in
    none-takes (InModel VoltageRange) (ap InModel c.in-VoltageRange.is) a.rows.now
    (taken (InModel VoltageRange) c.with_voltage.result a.c refl (c.with_voltage.ensures no_ramp 0 ∙ ap (λ (t : _). part_on a.b VoltageRange t no_ramp 0) c.cells_of.ensures)
    (record { row = p.1; waveforms = omega (arith, p.2) }) refl p.0 (omega arith))
    refl refl c.no_waveform.ensures

pub returns-in-TemperatureRange : goal.returns-in-TemperatureRange
returns-in-TemperatureRange c =
    let a = c.args in
    let p = c.requires.placed in
    none-takes (InModel TemperatureRange) (ap InModel c.in-TemperatureRange.is) a.rows.now
    (taken (InModel TemperatureRange) c.with_temperature.result a.c refl (c.with_temperature.ensures no_ramp 0 ∙ ap (λ (t : _). part_on a.b TemperatureRange t no_ramp 0) c.cells_of-in-TemperatureRange.ensures)
    (record { row = p.1; waveforms = omega (arith, p.2) }) refl p.0 (omega arith))
    refl refl c.no_waveform-in-TemperatureRange.ensures

pub returns-in-Current : goal.returns-in-Current
returns-in-Current c =
    let a = c.args in
    subst (λ (p : ModelPart). TakesKey a.src.now a.b (InModel p) a.argument.now a.c a.rows.now c.take_current.new.rows c.take_current.result) (sym c.in-Current.is) (c.take_current.ensures a.argument.now)

pub returns-in-Ramp : goal.returns-in-Ramp
returns-in-Ramp c =
    let a = c.args in
    let p = c.requires.placed in
    let n = c.ramp_lines-read.ensures in
    none-takes (InModel Ramp) (ap InModel c.in-Ramp.is) a.rows.now
    (taken (InModel Ramp) c.with_ramp.result c.ramp_lines-read.result.next refl (c.with_ramp.ensures no_cells 0 ∙ ap (λ (r : _). part_on a.b Ramp no_cells r 0) n.ramp)
    (record { row = omega (arith, n.stops.rises, p.1); waveforms = omega (arith, n.stops.rises, p.2) })
    (keys-stop n.stops) n.stops.placed n.stops.rises)
    refl refl c.no_waveform-in-Ramp.ensures

pub returns-in-Waveform : goal.returns-in-Waveform
returns-in-Waveform c =
    let a = c.args in
    subst (λ (p : ModelPart). TakesKey a.src.now a.b (InModel p) a.argument.now a.c a.rows.now c.take_waveform.new.rows c.take_waveform.result) (sym c.in-Waveform.is) (c.take_waveform.ensures a.argument.now)
