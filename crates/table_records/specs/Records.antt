-- Records read back from their words, in the order of their fields.
use Rattle.std.specs.Prelude.{ℕ, ◌/◌, min, List, drop, Option, Some, None}
use Rattle.laws.specs.Eights.{bytes_from}
use Rattle.decimal.specs.declared.Cell.{Cell}
use Rattle.decimal.specs.declared.Cell.TheVariants.{Number, Missing}
use Rattle.records.specs.declared.Triple.{Triple}
use Rattle.records.specs.declared.RampTriple.{RampTriple}
use Rattle.records.specs.declared.RampTable.{RampTable}
use Rattle.records.specs.declared.Range.{Range}
use Rattle.records.specs.declared.Split.{Split}
use Rattle.records.specs.declared.Span.{Span}
use Rattle.records.specs.declared.Table.{Table}
use Rattle.records.specs.declared.Text.{Text}
use Rattle.records.specs.Texts.{Name, Words}
use Rattle.records.specs.declared.Component.{Component}
use Rattle.records.specs.declared.Pin.{Pin}
use Rattle.records.specs.declared.Selector.{Selector}
use Rattle.records.specs.declared.Choice.{Choice}
use Rattle.records.specs.declared.Model.{Model}
use Rattle.records.specs.declared.Waveform.{Waveform}
use Rattle.records.specs.declared.Model.Model.{ground}
use Rattle.records.specs.declared.Row.{Row}
use Rattle.table_records.specs.Values.{number_at, cell_at, flag_in, location_in, polarity_in, enable_in, edge_in, type_in, slope_in}

-- ---- parts of records

-- n bytes, eight to a word, and behind them how many of them are the text's
abbrev pub text_in : (n : ℕ) → List ℕ → Text n
text_in n ws = record { bytes = bytes_from ws n; len = min (number_at ws (n / 8)) n }

-- 40 bytes in five words
unfoldable pub name_from : List ℕ → Name
name_from ws = text_in 40 ws

-- 120 bytes in fifteen words
unfoldable pub text_from : List ℕ → Words
text_from ws = text_in 120 ws

unfoldable pub span_from : List ℕ → Span
span_from ws = record { start = number_at ws 0; count = number_at ws 1 }

unfoldable pub triple_from : List ℕ → Triple
triple_from ws = record { typ = cell_at ws 0; min = cell_at ws 1; max = cell_at ws 2 }

unfoldable pub slopes_from : List ℕ → RampTriple
slopes_from ws =
    record { typ = slope_in (cell_at ws 0) (cell_at ws 1); min = slope_in (cell_at ws 2) (cell_at ws 3); max = slope_in (cell_at ws 4) (cell_at ws 5) }

unfoldable pub table_from : List ℕ → Table
table_from ws = record { given = flag_in (number_at ws 0); rows = span_from (drop 1 ws) }

unfoldable pub range_from : List ℕ → Range
range_from ws = record { given = flag_in (number_at ws 0); cells = triple_from (drop 1 ws) }

unfoldable pub split_from : List ℕ → Split
split_from ws =
    record { pullup = range_from ws; pulldown = range_from (drop 4 ws); power = range_from (drop 8 ws); ground = range_from (drop 12 ws) }

unfoldable pub ramp_from : List ℕ → RampTable
ramp_from ws = record { given = flag_in (number_at ws 0); rise = slopes_from (drop 1 ws); fall = slopes_from (drop 7 ws); load = cell_at ws 13 }

-- ---- records

unfoldable pub component_from : List ℕ → Component
component_from ws =
    record {
      section = number_at ws 0;
      name = name_from (drop 1 ws);
      si = location_in (number_at ws 7);
      timing = location_in (number_at ws 8);
      manufacturer = name_from (drop 9 ws);
      resistance = triple_from (drop 15 ws);
      inductance = triple_from (drop 18 ws);
      capacitance = triple_from (drop 21 ws);
      pins = span_from (drop 24 ws);
    }

unfoldable pub pin_from : List ℕ → Pin
pin_from ws =
    record { name = name_from ws; signal = name_from (drop 6 ws); model = name_from (drop 12 ws); resistance = cell_at ws 18; inductance = cell_at ws 19; capacitance = cell_at ws 20 }

unfoldable pub selector_from : List ℕ → Selector
selector_from ws = record { section = number_at ws 0; name = name_from (drop 1 ws); choices = span_from (drop 7 ws) }

unfoldable pub choice_from : List ℕ → Choice
choice_from ws = record { model = name_from ws; description = text_from (drop 6 ws) }

unfoldable pub model_from : List ℕ → Model
model_from ws =
    record {
      section = number_at ws 0;
      name = name_from (drop 1 ws);
      kind = type_in (number_at ws 7);
      polarity = polarity_in (number_at ws 8);
      enable = enable_in (number_at ws 9);
      comp = triple_from (drop 10 ws);
      split = split_from (drop 13 ws);
      vinl = cell_at ws 29;
      vinh = cell_at ws 30;
      vmeas = cell_at ws 31;
      cref = cell_at ws 32;
      rref = cell_at ws 33;
      vref = cell_at ws 34;
      voltage = triple_from (drop 35 ws);
      temperature = range_from (drop 38 ws);
      pulldown = table_from (drop 42 ws);
      pullup = table_from (drop 45 ws);
      ground = table_from (drop 48 ws);
      power = table_from (drop 51 ws);
      ramp = ramp_from (drop 54 ws);
      waveforms = span_from (drop 68 ws);
    }

unfoldable pub waveform_from : List ℕ → Waveform
waveform_from ws =
    record {
      edge = edge_in (number_at ws 0);
      rfixture = cell_at ws 1;
      vfixture = cell_at ws 2;
      vmin = cell_at ws 3;
      vmax = cell_at ws 4;
      cfixture = cell_at ws 5;
      lfixture = cell_at ws 6;
      rdut = cell_at ws 7;
      ldut = cell_at ws 8;
      cdut = cell_at ws 9;
      rows = span_from (drop 10 ws);
    }

-- a row's first word is a number
abbrev pub as_row : Cell → Triple → Option Row
as_row (Number d) t = Some (record { number = d; cells = t })
as_row Missing t = None

unfoldable pub row_from : List ℕ → Option Row
row_from ws = as_row (cell_at ws 0) (triple_from (drop 1 ws))
