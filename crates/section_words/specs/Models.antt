-- A model as words, keyword by keyword, and what the functions that write them answer.
use Rattle.std.specs.Prelude.{ℕ, ◌≡◌, length}
use mathlib.Core.List.{List, ◌++◌, flat_map}
use Rattle.laws.specs.Lists.{front}
use Rattle.keywords.specs.declared.Keyword.{Keyword}
use Rattle.cut_lines.specs.Texts.{Text}
use Rattle.cut_lines.specs.Cursors.{rest}
use Rattle.cut_lines.specs.declared.Cursor.{Cursor}
use Rattle.rules.specs.Reading.{under, is_within, tables_in, model_in}
use Rattle.layout.specs.Laid.{rows_of, table_at, waveforms_laid}
use Rattle.records.specs.Stored.{stored}
use Rattle.records.specs.declared.Model.{Model}
use Rattle.records.specs.Texts.{Name}
use Rattle.records.specs.declared.Model.Model.{ground}
use Rattle.record_words.specs.Records.{model_words, waveform_words}
use Rattle.table_rows.specs.Rows.{Lies}
use Rattle.table_rows.specs.Parts.{key_rows}
use Rattle.model_record.specs.Bodies.{bare_body, body_step, body_on, KeyTaken, model_over}
use Rattle.model_record.specs.Takes.{key_waveform}
use Rattle.model_record.specs.declared.Body.{Body}
use Rattle.model_record.specs.declared.FirstLines.{FirstLines}
use Rattle.section_words.specs.declared.KeyFilled.{KeyFilled}
use Rattle.section_words.specs.declared.Used.{Used}

-- ---- under a keyword

-- a cursor stands behind the keyword's line
abbrev pub waveform_under : List ℕ → Cursor → Keyword → ℕ → List ℕ
waveform_under s c k row = key_waveform waveform_words k row (under (rest s c))

abbrev pub rows_under : List ℕ → Cursor → Keyword → List ℕ
rows_under s c k = stored (key_rows k (under (rest s c)))

-- ---- a model's record while its keywords are read: its waveforms are counted at the end

abbrev pub uncounted : Body → Body
uncounted b =
    record {
      voltage = b.voltage;
      temperature = b.temperature;
      pulldown = b.pulldown;
      pullup = b.pullup;
      ground = b.ground;
      power = b.power;
      ramp = b.ramp;
      waveforms = 0;
      row = 0;
    }

-- whatever its first lines say: where b stood in the record, b' stands
abbrev pub Turns : List ℕ → List ℕ → Body → Body → Type 0
Turns model model' b b' =
    (n start : ℕ) (name : Name) (f : FirstLines) (behind : List ℕ) → model ≡ model_words (model_over n start name f (uncounted b)) ++ behind
    → model' ≡ model_words (model_over n start name f (uncounted b')) ++ behind

-- the keyword is taken, w being its argument, and what it says and what stands under it is written into the record and over the two tables
pub record KeyFills (s : List ℕ) (b : Body) (k : Keyword) (w : List ℕ) (c : Cursor) (model model' waves waves' store store' : List ℕ) (r : KeyFilled) : Type 0 where
  pub taken : KeyTaken s b k w c (body_step b k w (under (rest s c))) r.next
  pub turns : Turns model model' b (body_step b k w (under (rest s c)))
  pub waveform : Lies waves waves' r.used.waveforms (waveform_under s c k b.row)
  pub rows : Lies store store' r.used.rows (rows_under s c k)

-- ---- behind a model's keyword line, whose texts are ts; row and start are the places of its first row and waveform

abbrev pub waveforms_behind : ℕ → List Text → List ℕ
waveforms_behind row ts = flat_map waveform_words (waveforms_laid (tables_in (front is_within ts)) row)

abbrev pub rows_behind : List Text → List ℕ
rows_behind ts = stored (flat_map rows_of (tables_in (front is_within ts)))

abbrev pub model_behind : ℕ → ℕ → ℕ → List ℕ → List Text → Model
model_behind n row start name ts =
    model_in n (table_at (tables_in (front is_within ts)) row) (record { start = start; count = length (waveforms_laid (tables_in (front is_within ts)) row) }) name (front is_within ts)

pub record BodyFills (ts : List Text) (row : ℕ) (model model' waves waves' store store' : List ℕ) (r : Used) : Type 0 where
  pub turns : Turns model model' (bare_body row) (body_on (bare_body row) (front is_within ts))
  pub waveforms : Lies waves waves' r.waveforms (waveforms_behind row ts)
  pub rows : Lies store store' r.rows (rows_behind ts)
