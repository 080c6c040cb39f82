-- What a keyword says of a model, as words of its record.
use Rattle.std.specs.Prelude.{ℕ, ◌+◌, List, true}
use Rattle.laws.specs.Said.{or_else}
use Rattle.keywords.specs.declared.CurrentTable.{CurrentTable}
use Rattle.keywords.specs.declared.CurrentTable.TheVariants.{Pulldown, Pullup, GndClamp, PowerClamp}
use Rattle.line_rules.specs.Fields.{three_cells}
use Rattle.records.specs.Stored.{no_cells}
use Rattle.record_words.specs.Records.{triple_words, range_words}

-- w is the keyword's argument
abbrev pub voltage_said : List ℕ → List ℕ
voltage_said w = triple_words (or_else no_cells (three_cells w))

abbrev pub temperature_said : List ℕ → List ℕ
temperature_said w = range_words (record { given = true; cells = or_else no_cells (three_cells w) })

-- ---- where each begins in the record

-- behind what the first lines say
abbrev pub voltage_from : ℕ
voltage_from = 35

abbrev pub temperature_from : ℕ
temperature_from = voltage_from + 3

-- a range has four words, a table three
abbrev pub table_from : CurrentTable → ℕ
table_from Pulldown = temperature_from + 4
table_from Pullup = temperature_from + 7
table_from GndClamp = temperature_from + 10
table_from PowerClamp = temperature_from + 13

abbrev pub ramp_from : ℕ
ramp_from = table_from PowerClamp + 3

abbrev pub waveforms_from : ℕ
waveforms_from = ramp_from + 14
