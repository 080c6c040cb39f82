-- By the keyword: `none_filled`, `lines-filled`, or a table of its kind.
use mathlib.Core.Path.{refl}
use native.Mathlib.Omega.{arith}
use Rattle.laws.specs.Said.{or_else}
use Rattle.keywords.specs.declared.Keyword.TheVariants.{InModel}
use Rattle.keywords.specs.declared.ModelPart.TheVariants.{VoltageRange, TemperatureRange, Ramp}
use Rattle.cut_lines.specs.Cursors.{rest}
use Rattle.line_rules.specs.Fields.{three_cells}
use Rattle.rules.specs.Reading.{under}
use Rattle.records.specs.Stored.{no_cells}
use Rattle.section_words.proofs.Turns.{voltage-turns, temperature-turns, ramp-turns}
use Rattle.section_words.proofs.Written.{none_filled, lines-filled}
use Rattle.section_words.proofs.keys.fill_part.Goals as goal

pub fill_current-requires : goal.fill_current-requires
fill_current-requires c = record {
  placed = c.requires.placed;
  c_in_bounds = rw c.in-Current.is at c.requires.part_in_bounds;
}

pub fill_wave-requires : goal.fill_wave-requires
fill_wave-requires c = record {
  placed = (c.requires.placed.0, c.requires.placed.1);
  waveform_size_in_bounds = rw c.in-Waveform.is at c.requires.row_in_bounds;
  c_in_bounds = rw c.in-Waveform.is at c.requires.part_in_bounds;
}

pub returns-in-VoltageRange : goal.returns-in-VoltageRange
returns-in-VoltageRange c =
    λ b i l.
    let a = c.args in
    let w = a.argument.now in
    rw (c.no_tables.ensures, c.in-VoltageRange.is)
    (none_filled a.src.now b a.argument.now a.c (InModel VoltageRange) a.model.now a.waveforms.now a.rows.now refl refl c.requires.placed.0 (record { row = omega (arith, i, c.requires.placed.1); waveforms = omega (arith, l) }) c.fill_voltage.new.model _ c.fill_voltage.ensures
    (voltage-turns b (or_else no_cells (three_cells w)) w (under (rest a.src.now a.c)) 0 a.model.now))

pub returns-in-TemperatureRange : goal.returns-in-TemperatureRange
returns-in-TemperatureRange c =
    λ b i l.
    let a = c.args in
    let w = a.argument.now in
    rw (c.no_tables-in-TemperatureRange.ensures, c.in-TemperatureRange.is)
    (none_filled a.src.now b a.argument.now a.c (InModel TemperatureRange) a.model.now a.waveforms.now a.rows.now refl refl c.requires.placed.0 (record { row = omega (arith, i, c.requires.placed.1); waveforms = omega (arith, l) }) c.fill_temperature.new.model _ c.fill_temperature.ensures
    (temperature-turns b (or_else no_cells (three_cells w)) w (under (rest a.src.now a.c)) 0 a.model.now))

pub returns-in-Current : goal.returns-in-Current
returns-in-Current c = λ b i l. rw c.in-Current.is (c.fill_current.ensures b c.args.argument.now c.args.waveforms.now i l)

pub returns-in-Ramp : goal.returns-in-Ramp
returns-in-Ramp c =
    λ b i l.
    let a = c.args in
    let w = a.argument.now in
    let h = c.fill_ramp-next.ensures.stops_at in
    rw (c.no_tables-in-Ramp.ensures, c.in-Ramp.is)
    (lines-filled a.src.now b a.argument.now a.c (InModel Ramp) a.model.now a.waveforms.now a.rows.now refl refl h (record { row = omega (arith, i, h.rises, c.requires.placed.1); waveforms = omega (arith, l, h.rises) }) c.fill_ramp-next.new.model _ c.fill_ramp-next.ensures.model_after
    (ramp-turns b (or_else no_cells (three_cells w)) w (under (rest a.src.now a.c)) 0 a.model.now))

pub returns-in-Waveform : goal.returns-in-Waveform
returns-in-Waveform c = λ b i l. rw c.in-Waveform.is (c.fill_wave.ensures b c.args.argument.now c.args.model.now i l)
