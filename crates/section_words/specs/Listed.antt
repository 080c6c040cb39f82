-- A model in a listing: its record with what its first lines say. No keyword of it is read.
use Rattle.std.specs.Prelude.{ℕ, List}
use Rattle.cut_lines.specs.Texts.{Text}
use Rattle.rules.specs.Reading.{no_range, no_ramp}
use Rattle.records.specs.Stored.{no_cells}
use Rattle.records.specs.declared.Model.{Model}
use Rattle.records.specs.declared.Model.Model.{ground}
use Rattle.record_words.specs.Records.{model_words}
use Rattle.model_record.specs.Bodies.{absent_table}
use Rattle.section_words.specs.Models.{model_behind}

-- what its keywords say is as where nothing is given; its waveforms begin where they would, and there are none
unfoldable pub listed_model : Model → Model
listed_model m =
    record {
      section = m.section;
      name = m.name;
      kind = m.kind;
      polarity = m.polarity;
      enable = m.enable;
      comp = m.comp;
      split = m.split;
      vinl = m.vinl;
      vinh = m.vinh;
      vmeas = m.vmeas;
      cref = m.cref;
      rref = m.rref;
      vref = m.vref;
      voltage = no_cells;
      temperature = no_range;
      pulldown = absent_table;
      pullup = absent_table;
      ground = absent_table;
      power = absent_table;
      ramp = no_ramp;
      waveforms = record { start = m.waveforms.start; count = 0 };
    }

abbrev pub listed_words : Model → List ℕ
listed_words m = model_words (listed_model m)

-- behind a model's keyword line, whose texts are ts; no row's place is kept, so the first row's may be any
abbrev pub listed_behind : ℕ → ℕ → List ℕ → List Text → Model
listed_behind n start name ts = listed_model (model_behind n 0 start name ts)
