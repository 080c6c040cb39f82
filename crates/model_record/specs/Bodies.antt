-- What the keywords of a model give, one after another.
use Rattle.std.specs.Prelude.{ℕ, ◌+◌, ◌^◌, ◌≤◌, ◌<◌, ◌≡◌, true, false, cond, length, eqb, Some}
use Prim.Native.String.{String}
use mathlib.Core.List.{List, [], ◌∷◌, flat_map}
use Rattle.laws.specs.Bytes.{bytes}
use Rattle.laws.specs.Lists.{after, eqs}
use Rattle.laws.specs.Said.{or_else}
use Rattle.keywords.specs.declared.CurrentTable.TheVariants.{Pulldown, Pullup, GndClamp, PowerClamp}
use Rattle.keywords.specs.declared.Keyword.{Keyword}
use Rattle.keywords.specs.declared.ModelPart.{ModelPart}
use Rattle.keywords.specs.declared.ModelPart.TheVariants.{VoltageRange, TemperatureRange, Current, Ramp, Waveform}
use Rattle.cut_lines.specs.Texts.{Text}
use Rattle.cut_lines.specs.Cursors.{rest, Placed}
use Rattle.cut_lines.specs.declared.Cursor.{Cursor}
use Rattle.line_rules.specs.Fields.{three_cells}
use Rattle.rules.specs.Model.{model_place}
use Rattle.rules.specs.Reading.{under, key_says, range_in, no_range, ramp_in, no_ramp, TableIs, tables_in, rows_in}
use Rattle.rules.specs.Keys.{by_keyword}
use Rattle.layout.specs.Laid.{rows_of, waveforms_laid}
use Rattle.records.specs.Stored.{no_cells}
use Rattle.records.specs.declared.Edge.TheVariants.{Rising}
use Rattle.records.specs.Texts.{Name}
use Rattle.records.specs.declared.RampTable.{RampTable}
use Rattle.records.specs.declared.Table.{Table}
use Rattle.records.specs.declared.Triple.{Triple}
use Rattle.records.specs.declared.Model.{Model}
use Rattle.records.specs.declared.Model.Model.{ground}
use Rattle.lines_under.specs.Under.{is_keyless}
use Rattle.table_rows.specs.Parts.{is_table}
use Rattle.model_record.specs.declared.FirstLines.{FirstLines}
use Rattle.model_record.specs.declared.Body.{Body}

abbrev pub absent_table : Table
absent_table = record { given = false; rows = record { start = 0; count = 0 } }

-- before the first keyword; the next row's place is n
abbrev pub bare_body : ℕ → Body
bare_body n =
    record {
      voltage = no_cells;
      temperature = no_range;
      pulldown = absent_table;
      pullup = absent_table;
      ground = absent_table;
      power = absent_table;
      ramp = no_ramp;
      waveforms = 0;
      row = n;
    }

-- a table of n rows from a place on; the first of its kind counts
abbrev pub with_table : Table → ℕ → ℕ → Table
with_table t at n = cond t.given t (record { given = true; rows = record { start = at; count = n } })

-- a keyword more, whose argument says cells, or under which a ramp stands, or n rows
abbrev pub part_on : Body → ModelPart → Triple → RampTable → ℕ → Body
part_on b p cells ramp n =
    record {
      voltage = cond (eqb (model_place p) (model_place VoltageRange)) cells b.voltage;
      temperature = cond (eqb (model_place p) (model_place TemperatureRange)) (record { given = true; cells = cells }) b.temperature;
      pulldown = cond (eqb (model_place p) (model_place (Current Pulldown))) (with_table b.pulldown b.row n) b.pulldown;
      pullup = cond (eqb (model_place p) (model_place (Current Pullup))) (with_table b.pullup b.row n) b.pullup;
      ground = cond (eqb (model_place p) (model_place (Current GndClamp))) (with_table b.ground b.row n) b.ground;
      power = cond (eqb (model_place p) (model_place (Current PowerClamp))) (with_table b.power b.row n) b.power;
      ramp = cond (eqb (model_place p) (model_place Ramp)) ramp b.ramp;
      waveforms = cond (eqb (model_place p) (model_place (Waveform Rising))) (b.waveforms + 1) b.waveforms;
      row = cond (is_table p) (b.row + n) b.row;
    }

-- a keyword of another section changes nothing; w is its argument and ls are the lines under it
abbrev pub body_step : Body → Keyword → List ℕ → List (List ℕ) → Body
body_step b k w ls =
    by_keyword b (λ p. b) (λ o. b) (λ p. b) (λ p. part_on b p (or_else no_cells (three_cells w)) (ramp_in w ls) (length (rows_in ls))) b (Some k)

-- what tables make of the one of a kind; n is the next row's place
unfoldable pub table_on : Table → List TableIs → ℕ → String → Table
table_on u [] n key = u
table_on u (t ∷ ts) n key = table_on (cond (eqs t.key (bytes key)) (with_table u n (length (rows_of t))) u) ts (n + length (rows_of t)) key

-- what texts make of it all
unfoldable pub body_on : Body → List Text → Body
body_on b ts =
    record {
      voltage = key_says "voltage_range" (λ w ls. (range_in w ls).cells) b.voltage ts;
      temperature = key_says "temperature_range" range_in b.temperature ts;
      pulldown = table_on b.pulldown (tables_in ts) b.row "pulldown";
      pullup = table_on b.pullup (tables_in ts) b.row "pullup";
      ground = table_on b.ground (tables_in ts) b.row "gnd_clamp";
      power = table_on b.power (tables_in ts) b.row "power_clamp";
      ramp = key_says "ramp" ramp_in b.ramp ts;
      waveforms = b.waveforms + length (waveforms_laid (tables_in ts) b.row);
      row = b.row + length (flat_map rows_of (tables_in ts));
    }

-- ---- bounds: every row and every waveform has a byte

pub record BodyFits (b : Body) (c : Cursor) : Type 0 where
  pub row : b.row < 2 ^ 63 + c.at
  pub waveforms : b.waveforms ≤ c.at

-- a keyword behind which c stands was taken, w being its argument, and made b' of b; and n is a place from where the same keywords follow
pub record KeyTaken (s : List ℕ) (b : Body) (k : Keyword) (w : List ℕ) (c : Cursor) (b' : Body) (n : Cursor) : Type 0 where
  pub body : b' ≡ body_step b k w (under (rest s c))
  pub keys : after is_keyless (rest s c) ≡ after is_keyless (rest s n)
  pub placed : Placed s n
  pub rises : c.at ≤ n.at
  pub fits : BodyFits b' n

-- ---- the whole record

abbrev pub model_over : ℕ → ℕ → Name → FirstLines → Body → Model
model_over n start name f b =
    record {
      section = n;
      name = name;
      kind = f.marks.kind;
      polarity = f.marks.polarity;
      enable = f.marks.enable;
      comp = f.comp;
      split = f.split;
      vinl = f.levels.vinl;
      vinh = f.levels.vinh;
      vmeas = f.levels.vmeas;
      cref = f.levels.cref;
      rref = f.levels.rref;
      vref = f.levels.vref;
      voltage = b.voltage;
      temperature = b.temperature;
      pulldown = b.pulldown;
      pullup = b.pullup;
      ground = b.ground;
      power = b.power;
      ramp = b.ramp;
      waveforms = record { start = start; count = b.waveforms };
    }
