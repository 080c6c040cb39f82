-- The rows of a model, keyword by keyword.
use Rattle.std.specs.Prelude.{ℕ, Bool, true, false, cond, Some}
use mathlib.Core.List.{List, [], flat_map}
use Rattle.keywords.specs.declared.Keyword.{Keyword}
use Rattle.keywords.specs.declared.ModelPart.{ModelPart}
use Rattle.keywords.specs.declared.ModelPart.TheVariants.{VoltageRange, TemperatureRange, Current, Ramp, Waveform}
use Rattle.cut_lines.specs.Texts.{Text}
use Rattle.rules.specs.Reading.{rows_in, tables_in}
use Rattle.rules.specs.Keys.{by_keyword}
use Rattle.layout.specs.Laid.{rows_of}
use Rattle.records.specs.Stored.{stored}
use Rattle.records.specs.declared.Row.{Row}

-- the words of a model's rows in the row store; ts are the texts behind its keyword
abbrev pub model_words : List Text → List ℕ
model_words ts = stored (flat_map rows_of (tables_in ts))

-- rows stand under it
abbrev pub is_table : ModelPart → Bool
is_table VoltageRange = false
is_table TemperatureRange = false
is_table (Current t) = true
is_table Ramp = false
is_table (Waveform e) = true

abbrev pub opens_table : Keyword → Bool
opens_table k = by_keyword false (λ p. false) (λ o. false) (λ p. false) is_table false (Some k)

-- the rows under a keyword, ls being the lines under it
abbrev pub key_rows : Keyword → List (List ℕ) → List Row
key_rows k ls = cond (opens_table k) (rows_in ls) []
