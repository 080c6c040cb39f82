-- What a summary tells of the models' die capacitances: a heading, and a row for each.
use Rattle.std.specs.Prelude.{ℕ, ◌/◌, List, length}
use Rattle.record_words.specs.Records.{model_size}
use Rattle.table_records.specs.Values.{record_at}
use Rattle.table_records.specs.Records.{model_from}
use Rattle.text_buffer.specs.Put.{Sheet, put}
use Rattle.explain_text.specs.Capacitances.{capacitance_heading, capacitance_row}
use Rattle.program_output.specs.Walks.{walked}

abbrev pub model_row : ℕ → List ℕ → ℕ → Sheet → Sheet
model_row width models k s = put (capacitance_row width (model_from (record_at model_size models k))) s

abbrev pub capacitances : ℕ → List ℕ → Sheet → Sheet
capacitances width models s = walked (model_row width models) 0 (length models / model_size) (put (capacitance_heading width) s)
