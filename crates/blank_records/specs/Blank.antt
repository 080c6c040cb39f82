-- Blank records, and tables of them at the limits of document 01.
use Rattle.std.specs.Prelude.{false, List, [], replicate, None}
use Rattle.decimal.specs.declared.Cell.TheVariants.{Missing}
use Rattle.records.specs.Bounds.{most, most_waveforms}
use Rattle.records.specs.declared.Kind.TheVariants.{OfComponent, OfPin, OfSelector, OfChoice, OfModel}
use Rattle.records.specs.declared.Edge.TheVariants.{Rising}
use Rattle.records.specs.Stored.{no_cells, name_laid, words_laid}
use Rattle.rules.specs.Reading.{no_range, no_split, no_ramp}
use Rattle.records.specs.declared.Location.TheVariants.{AtPin}
use Rattle.records.specs.declared.ModelType.TheVariants.{Input}
use Rattle.records.specs.declared.Span.{Span}
use Rattle.records.specs.declared.Table.{Table}
use Rattle.records.specs.declared.Component.{Component}
use Rattle.records.specs.declared.Pin.{Pin}
use Rattle.records.specs.declared.Selector.{Selector}
use Rattle.records.specs.declared.Choice.{Choice}
use Rattle.records.specs.declared.Model.{Model}
use Rattle.records.specs.declared.Model.Model.{ground}
use Rattle.records.specs.declared.Waveform.{Waveform}

-- ---- blank records
abbrev pub no_span : Span
no_span = record { start = 0; count = 0 }

abbrev pub no_table : Table
no_table = record { given = false; rows = no_span }

abbrev pub blank_component : Component
blank_component =
    record { section = 0; name = name_laid []; si = AtPin; timing = AtPin; manufacturer = name_laid []; resistance = no_cells; inductance = no_cells; capacitance = no_cells; pins = no_span }

abbrev pub blank_pin : Pin
blank_pin = record { name = name_laid []; signal = name_laid []; model = name_laid []; resistance = Missing; inductance = Missing; capacitance = Missing }

abbrev pub blank_selector : Selector
blank_selector = record { section = 0; name = name_laid []; choices = no_span }

abbrev pub blank_choice : Choice
blank_choice = record { model = name_laid []; description = words_laid [] }

abbrev pub blank_model : Model
blank_model =
    record {
      section = 0;
      name = name_laid [];
      kind = Input;
      polarity = None;
      enable = None;
      comp = no_cells;
      split = no_split;
      vinl = Missing;
      vinh = Missing;
      vmeas = Missing;
      cref = Missing;
      rref = Missing;
      vref = Missing;
      voltage = no_cells;
      temperature = no_range;
      pulldown = no_table;
      pullup = no_table;
      ground = no_table;
      power = no_table;
      ramp = no_ramp;
      waveforms = no_span;
    }

abbrev pub blank_waveform : Waveform
blank_waveform =
    record { edge = Rising; rfixture = Missing; vfixture = Missing; vmin = Missing; vmax = Missing; cfixture = Missing; lfixture = Missing; rdut = Missing; ldut = Missing; cdut = Missing; rows = no_span }

-- ---- blank tables, as long as a file may want them
unfoldable pub blank_components : List Component
blank_components = replicate (most OfComponent) blank_component

unfoldable pub blank_pins : List Pin
blank_pins = replicate (most OfPin) blank_pin

unfoldable pub blank_selectors : List Selector
blank_selectors = replicate (most OfSelector) blank_selector

unfoldable pub blank_choices : List Choice
blank_choices = replicate (most OfChoice) blank_choice

unfoldable pub blank_models : List Model
blank_models = replicate (most OfModel) blank_model

unfoldable pub blank_waveforms : List Waveform
blank_waveforms = replicate most_waveforms blank_waveform
